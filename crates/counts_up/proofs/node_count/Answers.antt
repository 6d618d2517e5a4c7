-- `node_count` meets its contract: the equations of counting give the set and the change of what the node is.
-- Assumes nothing.
use Rattle.std.proofs.Common.{ap, sym, ◌∙◌, arith}
use Rattle.parsimony.specs.Column.{cell_at}
use Rattle.parsimony.specs.Table.{symbol, handed}
use Rattle.parsimony.proofs.ColumnLaws.{cell_place}
use Rattle.parsimony.proofs.LegalLaws.{legal_below}
use Rattle.promises.specs.Input.{input_of}
use Rattle.tree_nodes.specs.NodeOf.{node_of}
use Rattle.counts_up.proofs.CountSteps.{tip_count_lem, inner_count}
use Rattle.counts_up.proofs.node_count.Goals as goal

pub overflow_mul-result : goal.overflow_mul-result
overflow_mul-result c =
    let there = cell_place c.requires.legal c.args.v c.requires.node.0 c.args.table.now.c c.args.j c.in-Symbol.r _
    c.requires.cells.0 c.requires.cells.1 (sym c.node_at.ensures ∙ ap node_of c.in-Symbol.is) in
    omega (arith, c.well_formed)

pub overflow_add-result : goal.overflow_add-result
overflow_add-result c =
    let there = cell_place c.requires.legal c.args.v c.requires.node.0 c.args.table.now.c c.args.j c.in-Symbol.r _
    c.requires.cells.0 c.requires.cells.1 (sym c.node_at.ensures ∙ ap node_of c.in-Symbol.is) in
    omega (arith, c.well_formed)

pub offset_bounds-table-r : goal.offset_bounds-table-r
offset_bounds-table-r c =
    let there = cell_place c.requires.legal c.args.v c.requires.node.0 c.args.table.now.c c.args.j c.in-Symbol.r _
    c.requires.cells.0 c.requires.cells.1 (sym c.node_at.ensures ∙ ap node_of c.in-Symbol.is) in
    omega (arith, c.well_formed)

pub bounds-table-r : goal.bounds-table-r
bounds-table-r c =
    let there = cell_place c.requires.legal c.args.v c.requires.node.0 c.args.table.now.c c.args.j c.in-Symbol.r _
    c.requires.cells.0 c.requires.cells.1 (sym c.node_at.ensures ∙ ap node_of c.in-Symbol.is) in
    omega (arith, c.well_formed)

pub offset_bounds-sets-a : goal.offset_bounds-sets-a
offset_bounds-sets-a c =
    let there = legal_below c.requires.legal c.requires.node.0 (sym (ap node_of c.in-Inner.is) ∙ c.node_at.ensures) in
    omega (arith, c.well_formed, c.requires.node.1)

pub bounds-sets-a : goal.bounds-sets-a
bounds-sets-a c =
    let there = legal_below c.requires.legal c.requires.node.0 (sym (ap node_of c.in-Inner.is) ∙ c.node_at.ensures) in
    omega (arith, c.well_formed, c.requires.node.1)

pub offset_bounds-sets-b : goal.offset_bounds-sets-b
offset_bounds-sets-b c =
    let there = legal_below c.requires.legal c.requires.node.0 (sym (ap node_of c.in-Inner.is) ∙ c.node_at.ensures) in
    omega (arith, c.well_formed, c.requires.node.1)

pub bounds-sets-b : goal.bounds-sets-b
bounds-sets-b c =
    let there = legal_below c.requires.legal c.requires.node.0 (sym (ap node_of c.in-Inner.is) ∙ c.node_at.ensures) in
    omega (arith, c.well_formed, c.requires.node.1)

pub returns-in-Symbol : goal.returns-in-Symbol
unfolding cell_at
returns-in-Symbol c =
    let I = input_of c.args.table.now in
    tip_count_lem I.left I.right I.c I.cells c.args.j c.requires.legal c.args.v c.requires.node.0 symbol _
    (sym (ap node_of c.in-Symbol.is) ∙ c.node_at.ensures)

pub returns-in-Handed : goal.returns-in-Handed
returns-in-Handed c =
    let I = input_of c.args.table.now in
    tip_count_lem I.left I.right I.c I.cells c.args.j c.requires.legal c.args.v c.requires.node.0 handed _
    (sym (ap node_of c.in-Handed.is) ∙ c.node_at.ensures)

pub returns-in-Inner : goal.returns-in-Inner
returns-in-Inner c =
    let I = input_of c.args.table.now in
    let node = sym (ap node_of c.in-Inner.is) ∙ c.node_at.ensures in
    let kids = legal_below c.requires.legal c.requires.node.0 node in
    let count = inner_count I.left I.right I.c I.cells c.args.j c.requires.legal c.args.v c.requires.node.0 _ _ _ _ node
    (c.requires.below _ kids.0) (c.requires.below _ kids.1) in
    (c.join.ensures.0 ∙ count.0, c.join.ensures.1 ∙ count.1)

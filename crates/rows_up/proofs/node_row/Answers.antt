-- `node_row` meets its contract: what the table says of node v gives its row, and the step that is called writes it.
-- Assumes nothing.
use Rattle.std.proofs.Common.{subst, ap, ap₂, sym, ◌∙◌, arith}
use Rattle.parsimony.specs.Column.{cell_entry, cost_at}
use Rattle.parsimony.specs.Written.{entries}
use Rattle.parsimony.proofs.LegalLaws.{legal_below}
use Rattle.parsimony.proofs.SliceLaws.{row_inside}
use Rattle.promises.specs.Input.{input_of}
use Rattle.promises.proofs.SoundLaws.{allowed_known}
use Rattle.row_step.specs.Lane.{join}
use Rattle.column_nodes.specs.Said.{Says}
use Rattle.rows_up.proofs.RowSteps.{symbol_row, handed_row, child_row, child_calm, inner_row_lem}
use Rattle.rows_up.proofs.node_row.Goals as goal

pub row_at-requires : goal.row_at-requires
row_at-requires c =
    let node = (subst (Says _ _ _) c.in-Inner.is c.column_node.ensures).said in
    let kids = legal_below (allowed_known _ c.args.sound.now.allowed).legal c.requires.node.1 (sym node) in
    let there = row_inside _ _ c.args.sound.now.table.s kids.0 in
    omega (arith, c.requires.room.0)

pub row_at-requires-in-Inner : goal.row_at-requires-in-Inner
row_at-requires-in-Inner c =
    let node = (subst (Says _ _ _) c.in-Inner.is c.column_node.ensures).said in
    let kids = legal_below (allowed_known _ c.args.sound.now.allowed).legal c.requires.node.1 (sym node) in
    let there = row_inside _ _ c.args.sound.now.table.s kids.1 in
    omega (arith, c.requires.room.0)

pub inner_row-requires-clause-calm : goal.inner_row-requires-clause-calm
inner_row-requires-clause-calm c =
    let I = input_of c.args.sound.now.table in
    let rules = allowed_known _ c.args.sound.now.allowed in
    let node = (subst (Says _ _ _) c.in-Inner.is c.column_node.ensures).said in
    let kids = legal_below rules.legal c.requires.node.1 (sym node) in
    let left = child_row I rules c.args.j c.requires.node.0 c.args.v c.requires.node.1 c.args.below.now _ _ c.requires.holds_rows kids.0 c.row_at.ensures.size c.row_at.ensures.row in
    let right = child_row I rules c.args.j c.requires.node.0 c.args.v c.requires.node.1 c.args.below.now _ _ c.requires.holds_rows kids.1 c.row_at-in-Inner.ensures.size c.row_at-in-Inner.ensures.row in (
      child_calm I rules c.args.j c.requires.node.0 c.args.v c.requires.node.1 _ _ kids.0 c.row_at.ensures.size left,
      child_calm I rules c.args.j c.requires.node.0 c.args.v c.requires.node.1 _ _ kids.1 c.row_at-in-Inner.ensures.size right,
    )

pub returns-in-Symbol : goal.returns-in-Symbol
returns-in-Symbol c =
    let tip = (subst (Says _ _ _) c.in-Symbol.is c.column_node.ensures).said in
    let I = input_of c.args.sound.now.table in
    let rules = allowed_known _ c.args.sound.now.allowed in
    λ x h. c.cell_row.ensures x h ∙ ap (λ w. cell_entry w x) tip.cell
    ∙ symbol_row I rules c.args.j c.requires.node.0 c.args.v c.requires.node.1 tip.r tip.node x

pub returns-in-Handed : goal.returns-in-Handed
returns-in-Handed c =
    let tip = (subst (Says _ _ _) c.in-Handed.is c.column_node.ensures).said in
    let I = input_of c.args.sound.now.table in
    let rules = allowed_known _ c.args.sound.now.allowed in
    λ x h. c.copy_row.ensures x h ∙ tip.entries x (omega (arith, c.copy_row.auto.row, c.requires.room.1))
    ∙ handed_row I rules c.args.j c.requires.node.0 c.args.v c.requires.node.1 tip.k tip.node x

pub returns-in-Inner : goal.returns-in-Inner
returns-in-Inner c =
    let I = input_of c.args.sound.now.table in
    let rules = allowed_known _ c.args.sound.now.allowed in
    let node = (subst (Says _ _ _) c.in-Inner.is c.column_node.ensures).said in
    let kids = legal_below rules.legal c.requires.node.1 (sym node) in
    let left = child_row I rules c.args.j c.requires.node.0 c.args.v c.requires.node.1 c.args.below.now _ _ c.requires.holds_rows kids.0 c.row_at.ensures.size c.row_at.ensures.row in
    let right = child_row I rules c.args.j c.requires.node.0 c.args.v c.requires.node.1 c.args.below.now _ _ c.requires.holds_rows kids.1 c.row_at-in-Inner.ensures.size c.row_at-in-Inner.ensures.row in
    λ x h. c.inner_row.ensures x h
    ∙ ap₂ (λ s l. join (cost_at s l) s (entries c.row_at.result.now) (entries c.row_at-in-Inner.result.now) x)
    c.costs_of-costs.ensures.0 c.costs_of-costs.ensures.1
    ∙ inner_row_lem I rules c.args.j c.requires.node.0 c.args.v c.requires.node.1 _ _ node _ _ c.row_at.ensures.size
    c.row_at-in-Inner.ensures.size left right x (omega (arith, c.inner_row.auto.row, c.requires.room.1))

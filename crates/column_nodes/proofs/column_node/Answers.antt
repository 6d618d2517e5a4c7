-- `column_node` meets its contract: what the table says of the node gives the place of its cell or of its handed row.
-- Assumes nothing.
use Rattle.std.proofs.Common.{◌+◌, ◌*◌, get_or, refl, ap, sym, ◌∙◌, arith}
use Rattle.parsimony.specs.Column.{cell_at, handed_at}
use Rattle.parsimony.proofs.SliceLaws.{part_length, part_entry}
use Rattle.promises.proofs.SoundLaws.{allowed_known}
use Rattle.tree_nodes.specs.NodeOf.{node_of}
use Rattle.column_nodes.proofs.PlaceLaws.{cell_there, number_small, row_there}
use Rattle.column_nodes.proofs.column_node.Goals as goal

pub overflow_mul-result : goal.overflow_mul-result
overflow_mul-result c =
    let at = cell_there _ (allowed_known _ c.args.sound.now.allowed) _ c.requires.0 _ c.requires.1 _
    (sym (ap node_of c.in-Symbol.is) ∙ c.node_at.ensures) in
    omega (arith, c.well_formed)

pub overflow_add-result : goal.overflow_add-result
overflow_add-result c =
    let at = cell_there _ (allowed_known _ c.args.sound.now.allowed) _ c.requires.0 _ c.requires.1 _
    (sym (ap node_of c.in-Symbol.is) ∙ c.node_at.ensures) in
    omega (arith, c.well_formed)

pub offset_bounds-table-r : goal.offset_bounds-table-r
offset_bounds-table-r c =
    let at = cell_there _ (allowed_known _ c.args.sound.now.allowed) _ c.requires.0 _ c.requires.1 _
    (sym (ap node_of c.in-Symbol.is) ∙ c.node_at.ensures) in
    omega (arith, c.well_formed)

pub bounds-table-r : goal.bounds-table-r
bounds-table-r c =
    let at = cell_there _ (allowed_known _ c.args.sound.now.allowed) _ c.requires.0 _ c.requires.1 _
    (sym (ap node_of c.in-Symbol.is) ∙ c.node_at.ensures) in
    at

pub overflow_mul-at : goal.overflow_mul-at
overflow_mul-at c =
    let rules = allowed_known _ c.args.sound.now.allowed in
    let is = sym (ap node_of c.in-Handed.is) ∙ c.node_at.ensures in
    let at = row_there _ rules _ c.requires.0 _ c.requires.1 _ c.args.sound.now.tips _ is in
    let number = number_small _ rules _ c.requires.0 _ c.requires.1 _ c.args.sound.now.tips _ is in
    omega (arith, c.well_formed)

pub overflow_add-at : goal.overflow_add-at
overflow_add-at c =
    let rules = allowed_known _ c.args.sound.now.allowed in
    let is = sym (ap node_of c.in-Handed.is) ∙ c.node_at.ensures in
    let at = row_there _ rules _ c.requires.0 _ c.requires.1 _ c.args.sound.now.tips _ is in
    let number = number_small _ rules _ c.requires.0 _ c.requires.1 _ c.args.sound.now.tips _ is in
    omega (arith, c.well_formed)

pub overflow_mul-at-in-Handed : goal.overflow_mul-at-in-Handed
overflow_mul-at-in-Handed c =
    let rules = allowed_known _ c.args.sound.now.allowed in
    let is = sym (ap node_of c.in-Handed.is) ∙ c.node_at.ensures in
    let at = row_there _ rules _ c.requires.0 _ c.requires.1 _ c.args.sound.now.tips _ is in
    omega (arith, c.well_formed)

pub overflow_add-result-in-Handed : goal.overflow_add-result-in-Handed
overflow_add-result-in-Handed c =
    let rules = allowed_known _ c.args.sound.now.allowed in
    let is = sym (ap node_of c.in-Handed.is) ∙ c.node_at.ensures in
    let at = row_there _ rules _ c.requires.0 _ c.requires.1 _ c.args.sound.now.tips _ is in
    omega (arith, c.well_formed)

pub offset_bounds-table-at : goal.offset_bounds-table-at
offset_bounds-table-at c =
    let rules = allowed_known _ c.args.sound.now.allowed in
    let is = sym (ap node_of c.in-Handed.is) ∙ c.node_at.ensures in
    let at = row_there _ rules _ c.requires.0 _ c.requires.1 _ c.args.sound.now.tips _ is in
    omega (arith, c.well_formed)

pub slice_bounds-result-end : goal.slice_bounds-result-end
slice_bounds-result-end c =
    let rules = allowed_known _ c.args.sound.now.allowed in
    let is = sym (ap node_of c.in-Handed.is) ∙ c.node_at.ensures in
    let at = row_there _ rules _ c.requires.0 _ c.requires.1 _ c.args.sound.now.tips _ is in
    search rules

-- a symbol tip
pub returns-in-Symbol : goal.returns-in-Symbol
unfolding cell_at
returns-in-Symbol c =
    record { said = record { r = _; node = sym c.node_at.ensures ∙ ap node_of c.in-Symbol.is; cell = refl } }

-- a handed tip
pub returns-in-Handed : goal.returns-in-Handed
unfolding handed_at
returns-in-Handed c =
    let rules = allowed_known _ c.args.sound.now.allowed in
    let is = sym (ap node_of c.in-Handed.is) ∙ c.node_at.ensures in
    let at = row_there _ rules _ c.requires.0 _ c.requires.1 _ c.args.sound.now.tips _ is in
    record {
      said = record {
        k = _;
        node = sym c.node_at.ensures ∙ ap node_of c.in-Handed.is;
        count = part_length _ _ _ at;
        entries = λ x h. part_entry _ _ _ x h ∙ ap (λ t. get_or c.args.sound.now.table.handed.now ((c.args.j * t + c.in-Handed.k) * c.args.sound.now.table.s + x) 0) c.args.sound.now.tips;
      };
    }

-- `note_children` meets its contract: each turn adds the uses by one node more.
-- Assumes nothing.
use Rattle.std.proofs.Common.{arith}
use Rattle.promises.specs.Input.{input_of, node_in}
use Rattle.tree_uses.proofs.MarkLaws.{children_low, children_counted}
use Rattle.tree_uses.proofs.note_children.Goals as goal

pub note_kids-requires : goal.note_kids-requires
note_kids-requires c =
    children_low (node_in (input_of c.args.table.now)) c.loop-v.invariant (omega (arith, c.requires.size_rules.0.most))

pub loop-v-preserved : goal.loop-v-preserved
loop-v-preserved c =
    children_counted (node_in (input_of c.args.table.now)) _ _ c.node_at.ensures _ _ c.loop-v.invariant
    c.note_kids.ensures

-- `note_children` meets its contract. The invariant: the marks count the child uses of the nodes below v.
-- Assumes nothing.
use Rattle.parsimony.specs.Table.{child_uses}
use Rattle.promises.specs.Input.{input_of, node_in}
use Rattle.tree_uses.specs.Marks.{MarksAre}
use Rattle.tree_uses.proofs.note_children.Given as goal

abbrev pub invariant-loop-v : goal.invariant-loop-v
invariant-loop-v l = MarksAre (child_uses (node_in (input_of l.table)) l.v) l.used

-- `take_kids` meets its contract: children that are free get a use each, and else nothing is written.
-- Assumes nothing.
use Rattle.tree_uses.proofs.MarkLaws.{raised_most}
use Rattle.tree_uses.proofs.take_kids.Goals as goal

pub add_use-requires-then-free : goal.add_use-requires-then-free
add_use-requires-then-free c = raised_most 65533 _ _ _ c.requires.1 c.add_use.ensures

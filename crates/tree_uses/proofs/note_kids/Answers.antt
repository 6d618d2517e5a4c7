-- `note_kids` meets its contract: a tip adds nothing, and an inner node one use for each child.
-- Assumes nothing.
use Rattle.tree_uses.proofs.MarkLaws.{raised_most}
use Rattle.tree_uses.proofs.note_kids.Goals as goal

pub add_use-requires-in-Inner : goal.add_use-requires-in-Inner
add_use-requires-in-Inner c = raised_most 65533 _ _ _ c.requires c.add_use.ensures

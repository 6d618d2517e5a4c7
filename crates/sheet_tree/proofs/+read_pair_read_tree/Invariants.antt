-- The readers of a tree and of a pair end: the measure is twice the depth left, and one more for a tree.
-- Assumes nothing.
use Rattle.std.proofs.Common.{◌+◌, ◌*◌}
use Rattle.sheet_tree.proofs.+read_pair_read_tree.Given as goal

abbrev pub decreases-read_pair : goal.decreases-read_pair
decreases-read_pair l = l.depth * 2

abbrev pub decreases-read_tree : goal.decreases-read_tree
decreases-read_tree l = l.depth * 2 + 1

-- `walk` meets its contract. The invariant: the marks count the uses by the nodes below v, the entries of which keep
-- their rules.
-- Assumes nothing.
use Rattle.std.proofs.Common.{ℕ, ◌<◌}
use Rattle.parsimony.specs.Fault.{KeepsEntries}
use Rattle.promises.specs.Input.{input_of, node_in, nodes}
use Rattle.tree_test.specs.Visit.{Marked}
use Rattle.tree_test.proofs.walk.Given as goal

abbrev pub invariant-loop-v : goal.invariant-loop-v
invariant-loop-v l = Marked (node_in (input_of l.table)) l.v l.marks.seen l.marks.rows l.marks.given
    × ((u : ℕ) → u < l.v
    → KeepsEntries (nodes (input_of l.table)) (node_in (input_of l.table)) u (node_in (input_of l.table) u))

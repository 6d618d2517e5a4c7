-- `first_unused` meets its contract. The invariant: each node below u that is not the last has a use.
-- Assumes nothing.
use Rattle.std.proofs.Common.{ℕ, suc, ◌<◌, ◌≤◌, get_or}
use Rattle.tree_test.proofs.first_unused.Given as goal

abbrev pub invariant-loop-u : goal.invariant-loop-u
invariant-loop-u l = (v : ℕ) → v < l.u → suc v < l.n → 1 ≤ get_or l.used v 0

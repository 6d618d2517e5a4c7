-- `diagonal_free` meets its contract. The loop's invariant: every diagonal entry before x is 0.
-- Assumes nothing.
use mathlib.Core.Path.{◌≡◌}
use Prim.Native.Nat.{ℕ, ◌+◌, ◌*◌, ◌<◌}
use lib.ListN.{get_or}
use Rattle.table_entries.proofs.costs.diagonal_free.Given as goal

abbrev pub invariant-loop-x : goal.invariant-loop-x
invariant-loop-x l = (k : ℕ) → k < l.x → get_or l.costs (k * l.s + k) 0 ≡ 0

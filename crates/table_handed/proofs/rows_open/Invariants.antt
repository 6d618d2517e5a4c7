-- `rows_open` meets its contract. The loop's invariant: each row before i has an entry that is not barred.
-- Assumes nothing.
use mathlib.Core.Path.{◌≡◌}
use Prim.Native.Nat.{ℕ, ◌+◌, ◌*◌, ◌-◌, ◌<◌}
use lib.ListN.{get_or}
use Rattle.parsimony.specs.Barred.{barred}
use Rattle.table_handed.proofs.rows_open.Given as goal

abbrev pub invariant-loop-i : goal.invariant-loop-i
invariant-loop-i l = (k : ℕ) → k < l.i → (x : ℕ) × (x < l.s) × (get_or l.entries (k * l.s + x) 0 ≡ barred → ⊥)

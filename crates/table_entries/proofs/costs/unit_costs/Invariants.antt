-- `unit_costs` meets its contract. The loop's invariant: every row before x is of unit costs.
-- Assumes nothing.
use mathlib.Core.Path.{◌≡◌}
use Prim.Native.Nat.{ℕ, ◌<◌}
use lib.Dec.{eqb}
use Rattle.parsimony.specs.Column.{cost_at}
use Rattle.parsimony.specs.Test.{pick}
use Rattle.table_entries.proofs.costs.unit_costs.Given as goal

abbrev pub invariant-loop-x : goal.invariant-loop-x
invariant-loop-x l = (k : ℕ) → k < l.x → (y : ℕ) → y < l.s → cost_at l.s l.costs k y ≡ pick (eqb k y) 0 1

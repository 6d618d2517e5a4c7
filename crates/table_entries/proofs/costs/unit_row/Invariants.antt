-- `unit_row` meets its contract. The loop's invariant: the row is of unit costs before y.
-- Assumes nothing.
use mathlib.Core.Path.{◌≡◌}
use Prim.Native.Nat.{ℕ, ◌<◌}
use lib.Dec.{eqb}
use Rattle.parsimony.specs.Column.{cost_at}
use Rattle.parsimony.specs.Test.{pick}
use Rattle.table_entries.proofs.costs.unit_row.Given as goal

abbrev pub invariant-loop-y : goal.invariant-loop-y
invariant-loop-y l = (k : ℕ) → k < l.y → cost_at l.s l.costs l.x k ≡ pick (eqb l.x k) 0 1

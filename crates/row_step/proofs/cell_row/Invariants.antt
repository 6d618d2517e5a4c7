-- `cell_row` meets its contract. The loop's invariant: the entries of the states below x are written.
-- Assumes nothing.
use Rattle.std.proofs.Common.{◌≡◌, ℕ, ◌<◌, get_or}
use Rattle.parsimony.specs.Column.{cell_entry}
use Rattle.row_step.proofs.cell_row.Given as goal

abbrev pub invariant-loop-x : goal.invariant-loop-x
invariant-loop-x l = (y : ℕ) → y < l.x → get_or l.row y 0 ≡ cell_entry l.cell y

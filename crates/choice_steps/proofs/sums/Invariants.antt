-- `sums` meets its contract. The loop's invariant: the sums of the states below y are written.
-- Assumes nothing.
use Rattle.std.proofs.Common.{◌≡◌, ℕ, ◌<◌, length, get_or}
use Rattle.parsimony.specs.Written.{entries}
use Rattle.row_step.specs.Lane.{lane}
use Rattle.choice_steps.proofs.sums.Given as goal

abbrev pub invariant-loop-y : goal.invariant-loop-y
invariant-loop-y l = (length l.sums ≡ 16) × ((k : ℕ) → k < l.y → get_or l.sums k 0 ≡ lane (entries l.costs) (entries l.row) k)

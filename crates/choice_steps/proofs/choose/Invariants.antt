-- `choose` meets its contract. The loop's invariant: of the states below y the lowest is the lowest least, and best is
-- its sum.
-- Assumes nothing.
use Rattle.std.proofs.Common.{◌≡◌, ◌<◌, length}
use Rattle.parsimony.specs.Written.{entries}
use Rattle.row_step.specs.Lane.{lane}
use Rattle.row_step.proofs.LeastSteps.{Looked}
use Rattle.choice_steps.proofs.choose.Given as goal

abbrev pub invariant-loop-y : goal.invariant-loop-y
invariant-loop-y l =
    (l.lowest < length l.row)
    × (l.best ≡ lane (entries l.changes) (entries l.row) l.lowest)
    × Looked (lane (entries l.changes) (entries l.row)) l.y l.lowest

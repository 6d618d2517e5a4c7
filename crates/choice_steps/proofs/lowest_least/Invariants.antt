-- `lowest_least` meets its contract. The loop's invariant: of the states below y the lowest least is found.
-- Assumes nothing.
use Rattle.std.proofs.Common.{◌<◌, length}
use Rattle.parsimony.specs.Written.{entries}
use Rattle.row_step.proofs.LeastSteps.{Looked}
use Rattle.choice_steps.proofs.lowest_least.Given as goal

abbrev pub invariant-loop-y : goal.invariant-loop-y
invariant-loop-y l = (l.lowest < length l.row) × Looked (entries l.row) l.y l.lowest

-- `least_up` meets its contract. The loop's invariant: the best is the least of the states below y.
-- Assumes nothing.
use Rattle.parsimony.specs.Least.{least}
use Rattle.parsimony.specs.Written.{entries}
use Rattle.parsimony.proofs.Extremes.{LowestSoFar}
use Rattle.std.proofs.Common.{length}
use Rattle.row_step.specs.Lane.{lane}
use Rattle.row_step.proofs.least_up.Given as goal

abbrev pub invariant-loop-y : goal.invariant-loop-y
invariant-loop-y l =
    LowestSoFar (lane (entries l.costs) (entries l.row)) (least (lane (entries l.costs) (entries l.row)) (length l.row))
    l.best l.y

-- `least_set` meets its contract. The loop's invariant: the set has the states below y at which the row is least.
-- Assumes nothing.
use Rattle.std.proofs.Common.{◌≡◌, length}
use Rattle.parsimony.specs.Written.{entries}
use Rattle.choice_steps.specs.Ties.{least_below}
use Rattle.choice_steps.proofs.least_set.Given as goal

abbrev pub invariant-loop-y : goal.invariant-loop-y
invariant-loop-y l = l.set.0 ≡ least_below (entries l.row) (length l.row) l.y

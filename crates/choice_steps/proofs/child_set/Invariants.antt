-- `child_set` meets its contract. The loop's invariant: the set has the states that reach the least under a parent's
-- state below x.
-- Assumes nothing.
use Rattle.std.proofs.Common.{◌≡◌}
use Rattle.parsimony.specs.Column.{cost_at}
use Rattle.parsimony.specs.Written.{entries}
use Rattle.choice_steps.specs.Ties.{reached_under}
use Rattle.choice_steps.proofs.child_set.Given as goal

abbrev pub invariant-loop-x : goal.invariant-loop-x
invariant-loop-x l = l.set.0
    ≡ reached_under (cost_at l.costs.s l.costs.list.now) (entries l.row) l.costs.s l.parent l.x

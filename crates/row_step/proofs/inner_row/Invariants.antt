-- `inner_row` meets its contract. The loop's invariant: the entries of the states below x are written.
-- Assumes nothing.
use Rattle.std.proofs.Common.{◌≡◌, ℕ, ◌<◌, get_or}
use Rattle.parsimony.specs.Column.{cost_at}
use Rattle.parsimony.specs.Written.{entries}
use Rattle.row_step.specs.Lane.{join}
use Rattle.row_step.proofs.inner_row.Given as goal

abbrev pub invariant-loop-x : goal.invariant-loop-x
invariant-loop-x l = (y : ℕ) → y < l.x
    → get_or l.row y 0 ≡ join (cost_at l.costs.s l.costs.list.now) l.costs.s (entries l.a) (entries l.b) y

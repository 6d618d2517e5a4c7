-- `least_up` meets its contract: the lowest of all sums is their least.
-- Assumes nothing.
use Rattle.std.proofs.Common.{ℕ, length, arith}
use Rattle.parsimony.specs.Least.{low}
use Rattle.parsimony.specs.Written.{entries}
use Rattle.parsimony.proofs.Extremes.{extreme_none}
use Rattle.parsimony.proofs.LeastLaws.{low_within, least_low, least_below}
use Rattle.row_step.specs.Lane.{lane}
use Rattle.row_step.proofs.LaneLaws.{least_within, within_most}
use Rattle.row_step.proofs.least_up.Goals as goal

pub loop-y-init : goal.loop-y-init
loop-y-init c =
    extreme_none (within_most 1073742822 _ (omega arith) (least_within c.requires.cheap c.requires.calm c.requires.some))

pub returns : goal.returns
returns c =
    let f : ℕ → ℕ = lane (entries c.args.costs.now) (entries c.args.row.now) in
    let s = length c.args.row.now in
    let last = low_within f s c.requires.some in
    let high = c.loop-y.invariant.every (low f s) (omega (arith, c.loop-y-test.false)) in
    let there = c.loop-y.invariant.told (λ k h. least_below f s k (omega arith)) in
    let e = least_low f s in
    omega arith

-- `choose` meets its contract: each turn looks at one state more.
-- Assumes nothing.
use Rattle.std.proofs.Common.{ℕ, ◌≡◌, ap, sym, subst, ◌∙◌, arith}
use Rattle.parsimony.specs.Least.{low}
use Rattle.parsimony.specs.Written.{entries}
use Rattle.parsimony.proofs.LeastLaws.{low_same}
use Rattle.parsimony.proofs.TieLaws.{in_use_low}
use Rattle.row_step.specs.Lane.{lane}
use Rattle.row_step.proofs.LaneLaws.{lane_row}
use Rattle.row_step.proofs.LeastSteps.{Looked, looked_one, looked_lower, looked_other}
use Rattle.choice_steps.proofs.choose.Goals.{then-sum-best, else-sum-best}
use Rattle.choice_steps.proofs.choose.Goals as goal

pub loop-y-init : goal.loop-y-init
loop-y-init c = (omega (arith, c.requires.states), c.through-best.ensures, looked_one _)

pub loop-y-preserved : goal.loop-y-preserved
loop-y-preserved c =
    let turn = c.loop-y in
    let f : ℕ → ℕ = lane (entries c.row-changes.result.now) (entries c.args.row.now) in
    let here = c.through-sum.ensures in
    let so_far = turn.invariant.1 in
    elim c.if-sum-best.branch [
      | then-sum-best w ↦ (
        omega (arith, w.lowest-is, c.loop-y-test.true),
        w.best-is ∙ here ∙ ap f (sym w.lowest-is),
        subst (Looked f _) (sym w.lowest-is)
            (looked_lower f turn.y _ turn.invariant.2 (omega (arith, w.if-sum-best.true, here, so_far))),
      )
      | else-sum-best w ↦ (
        omega (arith, w.lowest-is, turn.invariant.0),
        w.best-is ∙ so_far ∙ ap f (sym w.lowest-is),
        subst (Looked f _) (sym w.lowest-is)
            (looked_other f turn.y _ turn.invariant.2 (omega (arith, w.if-sum-best.false, here, so_far))),
      )
    ]

pub returns : goal.returns
returns c =
    let s = c.args.costs.now.s in
    let f : ℕ → ℕ = lane (entries c.row-changes.result.now) (entries c.args.row.now) in
    let all : c.loop-y.y ≡ s = omega (arith, c.requires.states) in
    sym c.loop-y.invariant.2 ∙ ap (low f) all
    ∙ low_same _ _ s
    (λ y h. lane_row _ _ s c.row-changes.ensures.cheap.count c.row-changes.ensures.row (entries c.args.row.now) y h)
    ∙ sym (in_use_low s c.args.x _)

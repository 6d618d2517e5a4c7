-- `lowest_least` meets its contract: each turn looks at one state more.
-- Assumes nothing.
use Rattle.std.proofs.Common.{ℕ, sym, subst, arith}
use Rattle.parsimony.specs.Written.{entries}
use Rattle.row_step.proofs.LeastSteps.{Looked, looked_one, looked_lower, looked_other}
use Rattle.choice_steps.proofs.lowest_least.Goals.{then-row-y, else-row-y}
use Rattle.choice_steps.proofs.lowest_least.Goals as goal

pub loop-y-init : goal.loop-y-init
loop-y-init c = (c.requires, looked_one _)

pub loop-y-preserved : goal.loop-y-preserved
loop-y-preserved c =
    let turn = c.loop-y in
    let f : ℕ → ℕ = entries c.args.row.now in
    elim c.if-row-y.branch [
      | then-row-y w ↦ (omega (arith, w.lowest-is, c.loop-y-test.true), subst (Looked f _) (sym w.lowest-is) (looked_lower f turn.y _ turn.invariant.1 w.if-row-y.true))
      | else-row-y w ↦ (omega (arith, w.lowest-is, turn.invariant.0), subst (Looked f _) (sym w.lowest-is) (looked_other f turn.y _ turn.invariant.1 w.if-row-y.false))
    ]

-- `least_set` meets its contract: each turn looks at one state more.
-- Assumes nothing.
use Rattle.std.proofs.Common.{ap, ap₂, sym, ◌∙◌}
use Rattle.parsimony.specs.StateSet.{union}
use Rattle.states.specs.declared.States.{States}
use Rattle.choice_steps.proofs.SetSteps.{least_set_none, least_set_more, least_set_other}
use Rattle.choice_steps.proofs.least_set.Goals.{then-row-y, else-row-y}
use Rattle.choice_steps.proofs.least_set.Goals as goal

pub loop-y-init : goal.loop-y-init
loop-y-init c = least_set_none _ _

pub loop-y-preserved : goal.loop-y-preserved
loop-y-preserved c =
    let turn = c.loop-y in
    let best = c.least_entry-best.ensures in
    elim c.if-row-y.branch [
      | then-row-y w ↦ ap (λ (r : States). r.0) w.set-is
          ∙ w.union-set.ensures
          ∙ ap₂ union turn.invariant w.one.ensures
          ∙ least_set_more _ _ turn.y (w.if-row-y.true ∙ best)
      | else-row-y w ↦ ap (λ (r : States). r.0) w.set-is
          ∙ turn.invariant
          ∙ least_set_other _ _ turn.y (λ e. w.if-row-y.false (e ∙ sym best))
    ]

-- `child_set` meets its contract: each turn looks at one state of the parent more.
-- Assumes nothing.
use Rattle.std.proofs.Common.{ap, ap₂, ◌∙◌, arith}
use Rattle.parsimony.specs.StateSet.{union}
use Rattle.states.specs.declared.States.{States}
use Rattle.choice_steps.proofs.SetSteps.{under_none, under_more, under_other}
use Rattle.choice_steps.proofs.child_set.Goals.{then-has, else-has}
use Rattle.choice_steps.proofs.child_set.Goals as goal

pub loop-x-init : goal.loop-x-init
loop-x-init c = under_none _ _ _ _

pub has-requires : goal.has-requires
has-requires c = omega (arith, c.args.costs.now.states.1)

pub loop-x-preserved : goal.loop-x-preserved
loop-x-preserved c =
    let turn = c.loop-x in
    elim c.if-has.branch [
      | then-has w ↦ ap (λ (r : States). r.0) w.set-is
          ∙ w.union-set.ensures
          ∙ ap₂ union turn.invariant w.reach_set.ensures
          ∙ under_more _ _ _ _ turn.x _ c.has.ensures w.if-has.true
      | else-has w ↦ ap (λ (r : States). r.0) w.set-is
          ∙ turn.invariant
          ∙ under_other _ _ _ _ turn.x _ c.has.ensures w.if-has.false
    ]

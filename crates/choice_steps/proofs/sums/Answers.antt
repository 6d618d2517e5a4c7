-- `sums` meets its contract: each turn writes one sum more.
-- Assumes nothing.
use Rattle.std.proofs.Common.{length-set, ◌∙◌, arith}
use Rattle.parsimony.proofs.SliceLaws.{filled_more}
use Rattle.choice_steps.proofs.sums.Goals as goal

pub loop-y-preserved : goal.loop-y-preserved
loop-y-preserved c =
    let turn = c.loop-y in (
      length-set _ _ _ ∙ turn.invariant.0,
      filled_more _ _ _ _ (omega (arith, turn.invariant.0, c.requires.few, c.loop-y-test.true)) c.through.ensures
          turn.invariant.1,
    )

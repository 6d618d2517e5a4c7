-- `copy_row` meets its contract: each turn copies one entry more.
-- Assumes nothing.
use Rattle.std.proofs.Common.{refl, arith}
use Rattle.parsimony.specs.Written.{entries}
use Rattle.parsimony.proofs.SliceLaws.{filled_more}
use Rattle.row_step.proofs.copy_row.Goals as goal

pub loop-x-preserved : goal.loop-x-preserved
loop-x-preserved c =
    let turn = c.loop-x in
    filled_more (entries c.args.source.now) _ _ _ (omega (arith, turn.auto.row, c.loop-x-test.true)) refl turn.invariant

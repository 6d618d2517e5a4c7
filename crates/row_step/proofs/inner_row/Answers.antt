-- `inner_row` meets its contract: each turn writes one entry more.
-- Assumes nothing.
use Rattle.std.proofs.Common.{◌∙◌, arith}
use Rattle.parsimony.proofs.SliceLaws.{filled_more}
use Rattle.row_step.proofs.LaneLaws.{join_row}
use Rattle.row_step.proofs.inner_row.Goals as goal

pub loop-x-preserved : goal.loop-x-preserved
loop-x-preserved c =
    let turn = c.loop-x in
    filled_more _ _ _ _ (omega (arith, turn.auto.row, c.loop-x-test.true))
    (c.join_entry.ensures ∙ join_row _ _ _ c.row.ensures.cheap.count c.row.ensures.row (omega (arith, c.requires.states.2, c.loop-x-test.true)) _ _ _ c.requires.states.0)
    turn.invariant

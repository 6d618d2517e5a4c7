-- `score_columns` meets its contract: each turn scores one column more.
-- Assumes nothing.
use Rattle.std.proofs.Common.{arith}
use Rattle.column_work.proofs.ScoreSteps.{scores_more}
use Rattle.column_work.proofs.scoring.score_columns.Goals as goal

pub loop-j-preserved : goal.loop-j-preserved
loop-j-preserved c =
    let turn = c.loop-j in
    scores_more _ turn.j c.score_column.result _ _ _ _ _ turn.invariant
    (omega (arith, turn.auto.scores, c.requires.output_room, c.loop-j-test.true)) c.score_column.ensures.score
    c.score_column.ensures.worked

-- `score_columns` meets its contract. The invariant: the columns below j are scored, and the row room holds the last of
-- them.
-- Assumes nothing.
use Rattle.promises.specs.Input.{input_of}
use Rattle.column_work.proofs.ScoreSteps.{ScoresTo}
use Rattle.column_work.proofs.scoring.score_columns.Given as goal

abbrev pub invariant-loop-j : goal.invariant-loop-j
invariant-loop-j l = ScoresTo (input_of l.sound.table) l.j l.initial.scores l.initial.rows l.scores l.rows

-- `score_column` meets its contract: the least entry of the root's row is the score.
-- Assumes nothing.
use Rattle.std.proofs.Common.{◌≡◌, ◌-◌, ◌∙◌, rules}
use Rattle.parsimony.specs.Least.{least}
use Rattle.promises.proofs.Meaning.{score_right}
use Rattle.promises.proofs.SoundLaws.{allowed_known}
use Rattle.promises.specs.Input.{input_of, nodes}
use Rattle.choice_steps.specs.Marks.{row_of}
use Rattle.choice_steps.proofs.LinkLaws.{least_is}
use Rattle.column_work.proofs.scoring.score_column.Goals as goal

pub returns-clause-score : goal.returns-clause-score
returns-clause-score c =
    let I = input_of c.args.sound.now.table in
    let table = allowed_known I c.args.sound.now.allowed in
    let rows = c.fill_rows.new.rows in
    let value : c.root_least.result ≡ least (row_of I.s rows (nodes I - 1)) I.s = search rules in
    score_right I table c.args.j c.requires.inside _ (value ∙ least_is I table c.args.j rows c.fill_rows.ensures.right)

-- `fill_column` meets its contract: the rows are the column's, and labels, sets and score are read off them.
-- Assumes nothing.
use Rattle.std.proofs.Common.{◌≡◌, ◌-◌, ◌∙◌, map, rules}
use Rattle.std.specs.Prelude.{None}
use Rattle.parsimony.specs.Least.{low, least}
use Rattle.promises.proofs.Meaning.{score_right}
use Rattle.promises.proofs.SoundLaws.{allowed_known}
use Rattle.promises.specs.Input.{input_of, nodes}
use Rattle.choice_steps.specs.Marks.{chosen, settled}
use Rattle.choice_steps.specs.Ties.{least_set}
use Rattle.choice_steps.specs.Marks.{row_of, Walked}
use Rattle.choice_steps.proofs.LinkLaws.{least_is}
use Rattle.choice_steps.proofs.ResultLaws.{numbers_walked, states_walked, sets_walked}
use Rattle.column_work.proofs.whole_work.fill_column.Goals as goal

pub returns : goal.returns
returns c =
    let I = input_of c.args.sound.now.table in
    let table = allowed_known I c.args.sound.now.allowed in
    let rows = c.fill_rows.new.rows in
    let held = c.fill_rows.ensures.right in
    let value : c.root_least.result ≡ least (row_of I.s rows (nodes I - 1)) I.s = search rules in
    let states : Walked chosen I rows (low (row_of I.s rows (nodes I - 1)) I.s) (map (λ x. x) c.args.states.now) (map (λ x. x) c.marks_down.new.marks) = search rules in
    let sets : Walked settled I rows (least_set (row_of I.s rows (nodes I - 1)) I.s) (map (λ x. x) c.args.sets.now) (map (λ x. x) c.marks_down-2.new.marks) = search rules in
    record {
      score = score_right I table c.args.j c.requires.inside _ (value ∙ least_is I table c.args.j rows held);
      labels = states_walked I table c.args.j c.requires.inside rows held None tt (numbers_walked chosen I rows _ _ _ states);
      each = sets_walked I table c.args.j c.requires.inside rows held None tt (numbers_walked settled I rows _ _ _ sets);
      worked = c.fill_rows.ensures;
    }

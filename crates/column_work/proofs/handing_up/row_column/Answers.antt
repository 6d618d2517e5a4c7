-- `row_column` meets its contract: the rows are the column's, and the root's is copied.
-- Assumes nothing.
use Rattle.std.proofs.Common.{◌≡◌, ℕ, ◌-◌, ◌<◌, ◌∙◌, get_or, length, length-take-le, rules, arith}
use Rattle.promises.proofs.SoundLaws.{allowed_known}
use Rattle.promises.specs.Input.{input_of, nodes}
use Rattle.choice_steps.specs.Marks.{row_of}
use Rattle.choice_steps.proofs.ResultLaws.{row_copied}
use Rattle.column_work.proofs.handing_up.row_column.Goals as goal

pub returns : goal.returns
returns c =
    let I = input_of c.args.sound.now.table in
    let table = allowed_known I c.args.sound.now.allowed in
    let rows = c.fill_rows.new.rows in
    let own = c.copy_row.new.row in
    let room = c.requires.room.output_room in
    let size : length own ≡ I.s = c.copy_row.auto.row ∙ length-take-le I.s c.args.row.now room in
    let same : length c.row.result.now ≡ I.s = search rules in
    let read : (x : ℕ) → x < length c.row.result.now → get_or c.row.result.now x 0 ≡ row_of I.s rows (nodes I - 1) x = search rules in
    record {
      output = row_copied I table c.args.j c.requires.inside rows c.fill_rows.ensures.right own c.args.row.now size room
          (λ x h. c.copy_row.ensures x (omega (arith, size)) ∙ read x (omega arith));
      worked = c.fill_rows.ensures;
    }

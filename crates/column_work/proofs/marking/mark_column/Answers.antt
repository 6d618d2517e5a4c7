-- `mark_column` meets its contract: the rows are the column's, and the walk by them leaves the output of the marks.
-- Assumes nothing.
use Rattle.std.proofs.Common.{◌-◌, map, subst, sym, rules}
use Rattle.std.specs.Prelude.{IfSome}
use Rattle.promises.specs.declared.table.Table.{Table}
use Rattle.promises.proofs.SoundLaws.{allowed_known}
use Rattle.promises.specs.Input.{input_of, nodes}
use Rattle.promises.specs.Starts.{start_or}
use Rattle.choice_steps.specs.Marks.{row_of, Walked}
use Rattle.column_work.proofs.marking.mark_column.Goals as goal

pub marks_down-requires-clause-start : goal.marks_down-requires-clause-start
marks_down-requires-clause-start g c =
    let I = input_of c.args.sound.now.table in
    let asked = c.requires.asked in
    let fits =
    g.M.Mark.laws.may_fits I (allowed_known I c.args.sound.now.allowed) c.args.j asked.inside c.args.start asked.may in
    subst (λ (T : Table). IfSome c.args.start (λ x. g.M.Mark.Fits T.s x)) (sym c.rows_in-worked.ensures.0) fits

pub returns : goal.returns
returns g c =
    let I = input_of c.args.sound.now.table in
    let table = allowed_known I c.args.sound.now.allowed in
    let rows = c.fill_rows.new.rows in
    let number = g.M.Mark.number in
    let asked = c.requires.asked in
    let walked : Walked g.M.Mark.passed I rows (start_or c.args.start (g.M.Mark.free_of (row_of I.s rows (nodes I - 1)) I.s)) (map number c.args.marks.now) (map number c.marks_down.new.marks) = search rules in
    record {
      output = g.M.Mark.laws.means I table c.args.j asked.inside rows c.fill_rows.ensures.right c.args.start _ _ asked.may walked;
      worked = c.fill_rows.ensures;
    }

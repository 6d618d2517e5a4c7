-- `column_line` meets its contract: the scorer's work is done, and its parts are put together.
-- Assumes nothing.
use Rattle.std.proofs.Common.{[], arith}
use Rattle.std.proofs.lemmas.Grind.{common_steps}
use Rattle.promises.specs.Input.{input}
use Rattle.report_lines.proofs.ReportLaws.{line_fits, slices_are, report_is, worked_done}
use Rattle.report_lines.proofs.column.column_line.Goals as goal

pub put_line-requires : goal.put_line-requires
put_line-requires c =
    let I = input c.args.left.now c.args.right.now 4 c.args.costs.now 1 c.args.cells.now [] in
    let done = worked_done {I = I} c.unwrap-score.ensures c.work_column.ensures in
    line_fits I c.requires.allowed (omega arith) done c.requires.fits_work.state_room c.requires.fits_work.set_room
    _ _ (grind (arith, common_steps)) (grind (arith, common_steps)) c.args.number _ _ _ _
    c.requires.number_bound.0 c.quiet_mark-quiet.ensures c.one_states-ones.ensures c.requires.number_bound.1

pub returns : goal.returns
returns c =
    let I = input c.args.left.now c.args.right.now 4 c.args.costs.now 1 c.args.cells.now [] in
    let done = worked_done {I = I} c.unwrap-score.ensures c.work_column.ensures in
    report_is I c.requires.allowed (omega arith) done c.args.number _ _ _
    (slices_are I c.requires.allowed (omega arith) done c.requires.fits_work.state_room c.requires.fits_work.set_room _ _
    (grind (arith, common_steps)) (grind (arith, common_steps)) c.args.number _ _ c.quiet_mark-quiet.ensures
    c.one_states-ones.ensures) c.put_line.ensures

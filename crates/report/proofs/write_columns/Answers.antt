-- `write_columns` meets its contract: each page goes on from the one before it, and has a column more.
-- Assumes nothing.
use Rattle.std.proofs.Common.{arith}
use Rattle.report_pages.proofs.PageSteps.{page_next}
use Rattle.report_pages.proofs.RoomLaws.{ample_still}
use Rattle.report_pages.proofs.ReadLaws.{as_printable_from}
use Rattle.report.proofs.write_columns.Goals as goal

pub loop-done-smaller : goal.loop-done-smaller
loop-done-smaller c =
    let ready = as_printable_from _ _ _ _ _ c.args.s.now.read c.loop-done.invariant.inside in
    let next = page_next _ _ _ _ _ ready c.print_page-done.ensures.page c.loop-done-test.true in
    omega arith

pub loop-done-preserved : goal.loop-done-preserved
loop-done-preserved c =
    let ready = as_printable_from _ _ _ _ _ c.args.s.now.read c.loop-done.invariant.inside in
    record {
      inside = (page_next _ _ _ _ _ ready c.print_page-done.ensures.page c.loop-done-test.true).1;
      few = c.print_page-done.result.few;
      room = ample_still _ _ c.loop-done.invariant.room c.print_page-done.ensures.room;
      page = omega (arith, c.print_page-done.ensures.inside, c.loop-done.invariant.page);
    }

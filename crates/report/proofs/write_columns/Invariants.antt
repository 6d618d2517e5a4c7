-- `write_columns` meets its contract: what is done, its next column and its total, is within the columns and their
-- scores; it ends, since each page has a column more at least.
-- Assumes nothing.
use Rattle.std.proofs.Common.{◌-◌, ◌*◌, ◌≤◌, length}
use Rattle.report_pages.specs.Rooms.{Ample}
use Rattle.report.proofs.write_columns.Given as goal

abbrev pub invariant-loop-done : goal.invariant-loop-done
invariant-loop-done l =
    record {
      inside : l.done.0 ≤ l.s.numbers.columns;
      few : l.done.1.0 ≤ l.done.0 * 4294967295;
      room : Ample l.room;
      page : 1057 ≤ length l.page.list.now;
    }

abbrev pub decreases-loop-done : goal.decreases-loop-done
decreases-loop-done l = l.s.numbers.columns - l.done.0

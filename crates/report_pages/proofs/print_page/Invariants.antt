-- `print_page` meets its contract: the lines of the columns up to next are the page.
-- Assumes nothing.
use Rattle.report_pages.specs.Rooms.{SameRoom}
use Rattle.report_pages.proofs.PageSteps.{Turn}
use Rattle.report_pages.proofs.print_page.Given as goal

abbrev pub invariant-loop-next : goal.invariant-loop-next
invariant-loop-next l =
    SameRoom l.fn.room l.room × Turn l.s.bytes.now l.fn.from.next l.fn.from.total l.next l.total l.fn.page l.page

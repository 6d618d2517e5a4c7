-- `give_line` meets its contract: the line is printed, and put where it fits.
-- Assumes nothing.
use Rattle.std.proofs.Common.{arith}
use Rattle.report_pages.proofs.ReadLaws.{as_printable}
use Rattle.exchange.proofs.EntrySteps.{give_short, give_room, give_done}
use Rattle.exchange.proofs.give_line.Goals as goal

pub returns-then-out-n : goal.returns-then-out-n
returns-then-out-n c =
    let ready = as_printable _ _ _ _ _ c.args.s.now.read c.requires in
    give_room _ _ _ _ _ _ ready _ _ _ c.over-line.ensures.text.0 c.sheet_line.ensures.printed
    c.as_slice-text.ensures _ c.if-out-n.true

pub overflow_mul-result : goal.overflow_mul-result
overflow_mul-result c =
    let ready = as_printable _ _ _ _ _ c.args.s.now.read c.requires in
    let short = give_short _ _ _ _ _ _ ready _ _ _ c.over-line.ensures.text.0 c.sheet_line.ensures.printed
    c.as_slice-text.ensures in
    record { fits = omega arith }

pub returns : goal.returns
returns c =
    let ready = as_printable _ _ _ _ _ c.args.s.now.read c.requires in
    give_done _ _ _ _ _ _ ready _ _ _ c.over-line.ensures.text.0 c.sheet_line.ensures.printed
    c.as_slice-text.ensures _ _ c.if-out-n.false c.copy_from_slice.ensures.after

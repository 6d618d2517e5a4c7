-- `put_line` meets its contract: its parts are put one after the other.
-- Assumes nothing.
use Rattle.report_lines.proofs.LineSteps.{puts_line}
use Rattle.report_lines.proofs.column.put_line.Goals as goal

pub returns : goal.returns
returns c =
    puts_line _ _ _ _ _ _ _ _ _ _ _ c.put_field.ensures c.put_field-2.ensures c.put_field-3.ensures
    c.put_field-4.ensures c.put_letters.ensures

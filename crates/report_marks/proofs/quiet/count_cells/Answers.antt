-- `count_cells` meets its contract: at the end all cells are counted.
-- Assumes nothing.
use Rattle.report_marks.proofs.QuietSteps.{tally_all}
use Rattle.report_marks.proofs.quiet.count_cells.Goals as goal

pub returns : goal.returns
returns c = tally_all c.args.set c.args.cells.now c.loop-cell-test.false c.loop-cell.invariant

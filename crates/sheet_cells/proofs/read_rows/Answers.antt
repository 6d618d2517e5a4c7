-- `read_rows` meets its contract. The invariant: i rows are read.
-- Assumes nothing.
use mathlib.Core.Path.{sym}
use native.Mathlib.Omega.{arith}
use Rattle.std.proofs.Common.{rules}
use Rattle.sheet_lines.proofs.Passing.{passing_on, passing_stop, passing_end}
use Rattle.sheet_lines.specs.Section.{placed}
use Rattle.sheet_cells.specs.Cells.{row_judge}
use Rattle.sheet_cells.proofs.read_rows.Goals as goal

pub returns-in_err-place : goal.returns-in_err-place
unfolding row_judge placed
returns-in_err-place c =
    passing_stop c.loop-i.invariant _ (search rules) c.loop-i-test.true (λ before. sym c.in_err-place.ensures)

pub loop-i-preserved : goal.loop-i-preserved
unfolding row_judge placed
loop-i-preserved c =
    passing_on c.loop-i.invariant _ _ (omega arith) c.loop-i-test.true (λ before. sym c.in_ok-place.ensures)

pub returns : goal.returns
returns c = passing_end c.loop-i.invariant c.loop-i-test.false

-- `read_rows` meets its contract. The invariant: i rows are read.
-- Assumes nothing.
use Prim.Native.Nat.{◌+◌}
use Rattle.sheet_lines.proofs.Passing.{Passing}
use Rattle.sheet_cells.specs.Cells.{row_judge}
use Rattle.sheet_cells.proofs.read_rows.Given as goal

abbrev pub invariant-loop-i : goal.invariant-loop-i
invariant-loop-i l = Passing (row_judge l.c l.sheet) l.t l.at l.line l.i l.place (l.line + l.i)

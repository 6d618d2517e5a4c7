-- `put_cells` meets its contract. The invariant: the cells of the rows below r are put.
-- Assumes nothing.
use Rattle.sheet.specs.Cells.{Filled}
use Rattle.sheet.proofs.put_cells.Given as goal

abbrev pub invariant-loop-r : goal.invariant-loop-r
invariant-loop-r l = Filled l.sheet l.c l.at l.j l.r l.cells

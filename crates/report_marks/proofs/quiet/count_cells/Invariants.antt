-- `count_cells` meets its contract: the cells up to this one are counted.
-- Assumes nothing.
use Rattle.std.proofs.Common.{◌≡◌, ◌==◌, take}
use Rattle.std.specs.List.{count_by}
use Rattle.report_marks.proofs.quiet.count_cells.Given as goal

abbrev pub invariant-loop-cell : goal.invariant-loop-cell
invariant-loop-cell l = l.count ≡ count_by (λ cell. cell == l.set) (take l.cell-index l.cells)

-- The paper's worked examples hold, the report's two lines with them: one statement, by computation.
-- Assumes nothing.
use mathlib.Core.Bool.{true}
use mathlib.Core.List.{[]}
use mathlib.Core.Path.{◌≡◌, refl}
use Prim.Native.Nat.{ℕ}
use Rattle.parsimony.specs.Column.{cell_at}
use Rattle.parsimony.specs.Examples.{examples, example2b, all_hold}
use Rattle.parsimony.specs.Filled.{list_of}
use Rattle.parsimony.proofs.Examples.{examples_hold}
use Rattle.promises.specs.Input.{Input, input}
use Rattle.sheet_lines.specs.Bytes.{bytes}
use Rattle.report_lines.specs.Line.{column_line}

-- column j of the report's sheet, as a table of one column
abbrev report_column : ℕ → Input
report_column j =
    input example2b.left example2b.right example2b.s example2b.costs 1
    (list_of 3 (cell_at example2b.c example2b.cells j)) []

-- every claim of every example of the table, and example 2 whole: scores, quiet marks, one-state counts and labels
pub examples_whole : (all_hold examples ≡ true) × (column_line (report_column 0) 0 ≡ bytes "0 1 1 4 AAAGA")
    × (column_line (report_column 1) 1 ≡ bytes "1 1 1 5 CTTTT")
unfolding column_line bytes list_of cell_at
examples_whole = (examples_hold, refl, refl)

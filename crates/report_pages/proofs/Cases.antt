-- The reports of small sheets, whole, by computation.
-- Assumes nothing.
use mathlib.Core.List.{List}
use mathlib.Core.Path.{◌≡◌, refl}
use Prim.Native.Nat.{ℕ}
use Prim.Native.String.{String}
use Rattle.sheet_lines.specs.Bytes.{bytes}
use Rattle.sheet_tips.specs.Nodes.{lefts, rights}
use Rattle.sheet.specs.Judge.{judge}
use Rattle.sheet.specs.Table.{flat, cells_of}
use Rattle.report_pages.specs.Report.{report_of}

-- the report of a sheet's text
unfoldable pub report : String → List ℕ
unfolding report_of bytes judge lefts rights flat cells_of
report text = report_of (bytes text)

-- the paper's sheet and its report
pub paper_report : report "names 3\na\nb\nc\ncolumns 2\nAC\nAT\nGT\ncosts 0\ntree 1\n((a,b),c);\n"
    ≡ bytes "columns 2\n0 1 1 4 AAAGA\n1 1 1 5 CTTTT\ntotal 2\n"
unfolding report
paper_report = refl

-- the letter J in a cell line
pub letter_j_report : report "names 3\na\nb\nc\ncolumns 2\nAC\nAJ\nGT\ncosts 0\ntree 1\n((a,b),c);\n"
    ≡ bytes "refused 10 7\n"
unfolding report
letter_j_report = refl

-- no columns
pub no_columns_report : report "names 1\na\ncolumns 0\n\ncosts 0\ntree 1\na;\n" ≡ bytes "columns 0\ntotal 0\n"
unfolding report
no_columns_report = refl

-- costs that differ by their direction: from A to C 1, from C to A 3
pub one_way_report :
    report "names 2\na\nb\ncolumns 1\nA\nC\ncosts 4\n0 1 9 9\n3 0 9 9\n9 9 0 9\n9 9 9 0\ntree 1\n(a,b);\n"
    ≡ bytes "columns 1\n0 1 1 3 ACA\ntotal 1\n"
unfolding report
one_way_report = refl

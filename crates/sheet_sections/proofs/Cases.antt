-- Sheets, sound and refused, by computation.
-- Assumes nothing.
use mathlib.Core.List.{[], ◌∷◌}
use mathlib.Core.Path.{◌≡◌, refl}
use Prim.Native.String.{String}
use Rattle.std.proofs.Common.{Result, Ok, Err}
use Rattle.sheet_costs.specs.Costs.{unit_table}
use Rattle.sheet_lines.specs.Bytes.{bytes}
use Rattle.sheet_lines.specs.declared.Fault.TheVariants.{Sheet, Symbol}
use Rattle.sheet_sections.specs.Sheet.{sheet_of}
use Rattle.sheet_lines.specs.declared.Fault.{Fault}
use Rattle.sheet_sections.specs.declared.Sections.{Sections}

-- what is read of a text
pub read : String → Result Sections Fault
unfolding sheet_of
read text = (sheet_of (bytes text)).rest.reading

-- the paper's sheet: three tips, two columns, the cells at 24, the tree at 48 on line 11
pub sheet_paper : sheet_of (bytes "names 3\na\nb\nc\ncolumns 2\nAC\nAT\nGT\ncosts 0\ntree 1\n((a,b),c);\n")
    ≡ record {
      names = 8 ∷ 10 ∷ 12 ∷ [];
      rest = record {
        reading = Ok (record { tips = 3; columns = 2; cells = 24; tree = 48; line = 11 });
        costs = unit_table;
      };
    }
unfolding sheet_of
sheet_paper = refl

-- four lines of costs, by the parent's state and then the child's
pub sheet_with_costs : sheet_of (bytes "names 1\na\ncolumns 0\n\ncosts 4\n0 1 2 3\n4 0 5 6\n7 8 0 9\n10 11 999 0\ntree 1\n")
    ≡ record {
      names = 8 ∷ [];
      rest = record {
        reading = Ok (record { tips = 1; columns = 0; cells = 20; tree = 72; line = 11 });
        costs = (0 ∷ 1 ∷ 2 ∷ 3 ∷ []) ∷ (4 ∷ 0 ∷ 5 ∷ 6 ∷ []) ∷ (7 ∷ 8 ∷ 0 ∷ 9 ∷ []) ∷ (10 ∷ 11 ∷ 999 ∷ 0 ∷ []) ∷ [];
      };
    }
unfolding sheet_of
sheet_with_costs = refl

-- refused: nothing at all; a file with CR LF; a last line without its end
pub sheet_empty : read "" ≡ Err (Sheet 1)
unfolding read
sheet_empty = refl

pub sheet_return : read "names 1\r\na\r\ncolumns 0\r\n\r\ncosts 0\r\ntree 1\r\na;\r\n" ≡ Err (Sheet 1)
unfolding read
sheet_return = refl

pub sheet_open : read "names 1\na\ncolumns 0\n\ncosts 0\ntree 1" ≡ Err (Sheet 6)
unfolding read
sheet_open = refl

-- a file that ends where more is due
pub sheet_early : read "names 1\na\ncolumns 0\n\ncosts 0\n" ≡ Err (Sheet 6)
unfolding read
sheet_early = refl

-- a count above the names: the fault is at the line of the columns; a count below them: at the name too many
pub sheet_names_four : read "names 4\na\nb\nc\ncolumns 2\nAC\nAT\nGT\ncosts 0\ntree 1\n" ≡ Err (Sheet 5)
unfolding read
sheet_names_four = refl

pub sheet_names_two : read "names 2\na\nb\nc\ncolumns 2\nAC\nAT\nGT\ncosts 0\ntree 1\n" ≡ Err (Sheet 4)
unfolding read
sheet_names_two = refl

-- a leading zero; equal names
pub sheet_zero : read "names 01\na\ncolumns 0\n\ncosts 0\ntree 1\n" ≡ Err (Sheet 1)
unfolding read
sheet_zero = refl

pub sheet_zero_columns : read "names 1\na\ncolumns 00\n\ncosts 0\ntree 1\n" ≡ Err (Sheet 3)
unfolding read
sheet_zero_columns = refl

pub sheet_equal : read "names 3\na\nb\na\ncolumns 2\nAC\nAT\nGT\ncosts 0\ntree 1\n" ≡ Err (Sheet 4)
unfolding read
sheet_equal = refl

-- a J in a cell; a space in a line of the right length; lower case
pub sheet_j : read "names 2\na\nb\ncolumns 2\nAC\nAJ\ncosts 0\ntree 1\n" ≡ Err (Symbol 6)
unfolding read
sheet_j = refl

pub sheet_space : read "names 1\na\ncolumns 2\nA \ncosts 0\ntree 1\n" ≡ Err (Symbol 4)
unfolding read
sheet_space = refl

pub sheet_lower : read "names 1\na\ncolumns 2\nAc\ncosts 0\ntree 1\n" ≡ Err (Symbol 4)
unfolding read
sheet_lower = refl

-- a line of a wrong length is SHEET even if it has a J; a J on an earlier line comes before a bad byte on a later one;
-- a tab comes before the J on its own line
pub sheet_long_j : read "names 1\na\ncolumns 2\nAJC\ncosts 0\ntree 1\n" ≡ Err (Sheet 4)
unfolding read
sheet_long_j = refl

pub sheet_j_first : read "names 2\na\nb\ncolumns 2\nAJ\nA\tT\ncosts 0\ntree 1\n" ≡ Err (Symbol 5)
unfolding read
sheet_j_first = refl

pub sheet_tab : read "names 1\na\ncolumns 2\nJ\tT\ncosts 0\ntree 1\n" ≡ Err (Sheet 4)
unfolding read
sheet_tab = refl

-- no columns, and still a line for each name
pub sheet_no_columns : read "names 2\na\nb\ncolumns 0\n\n\ncosts 0\ntree 1\n"
    ≡ Ok (record { tips = 2; columns = 0; cells = 22; tree = 39; line = 9 })
unfolding read
sheet_no_columns = refl

pub sheet_no_lines : read "names 2\na\nb\ncolumns 0\ncosts 0\ntree 1\n" ≡ Err (Sheet 5)
unfolding read
sheet_no_lines = refl

-- too many columns; a count of many digits
pub sheet_65536 : read "names 1\na\ncolumns 65536\n\ncosts 0\ntree 1\n" ≡ Err (Sheet 3)
unfolding read
sheet_65536 = refl

pub sheet_digits : read "names 18446744073709551617\na\ncolumns 0\n\ncosts 0\ntree 1\n" ≡ Err (Sheet 1)
unfolding read
sheet_digits = refl

-- costs: another count; a diagonal that is not 0; a cost of 1,000; a leading zero; three numbers; five; two spaces;
-- a line too few
pub costs_three : read "names 1\na\ncolumns 0\n\ncosts 3\ntree 1\n" ≡ Err (Sheet 5)
unfolding read
costs_three = refl

pub costs_diagonal : read "names 1\na\ncolumns 0\n\ncosts 4\n0 1 1 1\n1 1 1 1\n1 1 0 1\n1 1 1 0\ntree 1\n"
    ≡ Err (Sheet 7)
unfolding read
costs_diagonal = refl

pub costs_1000 : read "names 1\na\ncolumns 0\n\ncosts 4\n0 1000 1 1\n1 0 1 1\n1 1 0 1\n1 1 1 0\ntree 1\n"
    ≡ Err (Sheet 6)
unfolding read
costs_1000 = refl

pub costs_zero : read "names 1\na\ncolumns 0\n\ncosts 4\n0 01 1 1\n1 0 1 1\n1 1 0 1\n1 1 1 0\ntree 1\n"
    ≡ Err (Sheet 6)
unfolding read
costs_zero = refl

pub costs_line_of_three : read "names 1\na\ncolumns 0\n\ncosts 4\n0 1 1 1\n1 0 1 1\n1 1 0\n1 1 1 0\ntree 1\n"
    ≡ Err (Sheet 8)
unfolding read
costs_line_of_three = refl

pub costs_many : read "names 1\na\ncolumns 0\n\ncosts 4\n0 1 1 1\n1 0 1 1\n1 1 0 1 1\n1 1 1 0\ntree 1\n"
    ≡ Err (Sheet 8)
unfolding read
costs_many = refl

pub costs_spaces : read "names 1\na\ncolumns 0\n\ncosts 4\n0  1 1 1\n1 0 1 1\n1 1 0 1\n1 1 1 0\ntree 1\n"
    ≡ Err (Sheet 6)
unfolding read
costs_spaces = refl

pub costs_lines : read "names 1\na\ncolumns 0\n\ncosts 4\n0 1 1 1\n1 0 1 1\n1 1 0 1\ntree 1\n" ≡ Err (Sheet 9)
unfolding read
costs_lines = refl

-- two trees
pub trees_two : read "names 1\na\ncolumns 0\n\ncosts 0\ntree 2\na;\na;\n" ≡ Err (Sheet 6)
unfolding read
trees_two = refl

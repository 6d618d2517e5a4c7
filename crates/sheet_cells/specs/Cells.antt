-- The section of the columns: `columns c`, and for each name a line of c symbols.
-- Assumes nothing.
use Rattle.std.specs.Prelude.{Result, Ok, Err, Bool, List, [], ℕ, ◌+◌, ◌-◌, eqb}
use Rattle.std.specs.Option.{is_some}
use Rattle.sheet_cells.specs.declared.Matrix.{Matrix}
use Rattle.sheet_lines.specs.Bytes.{bytes, text_of, every}
use Rattle.sheet_lines.specs.Count.{on_place, count_of}
use Rattle.sheet_lines.specs.Counting.{on_count, on_part}
use Rattle.sheet_lines.specs.Line.{line_end}
use Rattle.sheet_lines.specs.Section.{Item, item, fault, section}
use Rattle.sheet_lines.specs.declared.Fault.{Fault}
use Rattle.sheet_lines.specs.declared.Fault.TheVariants.{Sheet, Symbol}
use Rattle.parsimony.specs.Test.{pick}
use Rattle.sheet_symbols.specs.Symbol.{symbol_of}

-- the test that a byte is in the code list
unfoldable pub is_symbol : ℕ → Bool
unfolding symbol_of
is_symbol byte = is_some (symbol_of byte)

-- The row of the line from a place up to its end: its item is its place. A line that has not c bytes is SHEET; one
-- that has a byte that is not in the code list is then SYMBOL.
unfoldable pub row_to : ℕ → List ℕ → ℕ → ℕ → ℕ → Item ℕ
unfolding pick text_of every is_symbol
row_to c sheet at line end =
    pick (eqb (end - at) c)
    (pick (every is_symbol (text_of sheet at end)) (item at (end + 1)) (fault (Symbol line)))
    (fault (Sheet line))

-- the row at a place; no line is SHEET
unfoldable pub row_of : ℕ → List ℕ → ℕ → ℕ → Item ℕ
unfolding on_place line_end row_to
row_of c sheet at line = on_place (line_end sheet at) (fault (Sheet line)) (row_to c sheet at line)

-- a row is judged by itself, whatever the earlier ones are
unfoldable pub row_judge : ℕ → List ℕ → List ℕ → ℕ → ℕ → Item ℕ
unfolding row_of
row_judge c sheet earlier at line = row_of c sheet at line

-- the number of columns, with the place of the first cell and that of the next line
abbrev pub cells_at : ℕ → ℕ → ℕ → Matrix
cells_at c cells next = record { columns = c; cells = cells; next = next }

-- the section of the columns at a place and on a line, for t names: a count from 0 to 65,535, and t rows
unfoldable pub matrix_of : ℕ → List ℕ → ℕ → ℕ → Result Matrix Fault
unfolding bytes count_of on_count on_part section row_judge
matrix_of t sheet at line =
    on_count (count_of (bytes "columns ") 0 65535 sheet at line) Err
    (λ c cells. on_part (section (row_judge c sheet) t cells (line + 1) []).part Err
    (λ next. Ok (cells_at c cells next)))

-- The cells of one column of a sheet.
-- Assumes nothing.
use Rattle.std.specs.Prelude.{List, ◌≡◌, ℕ, ◌+◌, ◌<◌, length, get_or}
use Rattle.sheet_cells.specs.IsRow.{row_at}
use Rattle.sheet_symbols.specs.Code.{symbol_set}

-- the cells of column j, in t rows of c columns from a place on, stand in the sheet
pub record Inside (sheet : List ℕ) (t c at j : ℕ) : Type 0 where
  pub cell : (r : ℕ) → r < t → row_at at c r + j < length sheet

-- of 512 entries, the first t are the sets of those cells
pub record Filled (sheet : List ℕ) (c at j t : ℕ) (cells : List ℕ) : Type 0 where
  pub long : length cells ≡ 512
  pub cell : (r : ℕ) → r < t → get_or cells r 0 ≡ symbol_set (get_or sheet (row_at at c r + j) 0)

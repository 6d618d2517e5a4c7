-- What a row of cells is, in words.
-- Assumes nothing.
use Rattle.std.specs.Prelude.{Some, None, List, ◌⊎◌, ◌≡◌, ℕ, ◌+◌, ◌*◌, ◌<◌, get_or}
use Rattle.sheet_lines.specs.IsLine.{IsLine}
use Rattle.sheet_lines.specs.declared.Fault.{Fault}
use Rattle.sheet_lines.specs.declared.Fault.TheVariants.{Sheet, Symbol}
use Rattle.sheet_symbols.specs.Symbol.{symbol_of}

-- the line at a place has c bytes, and each of them is in the code list
pub record IsRow (sheet : List ℕ) (c at : ℕ) : Type 0 where
  pub line : IsLine sheet at (at + c)
  pub listed : (j : ℕ) → j < c → (set : ℕ) × (symbol_of (get_or sheet (at + j) 0) ≡ Some set)

-- Row r of c columns that start at a place, as a curator counts: each row before it takes its c bytes and a line end.
abbrev pub row_at : ℕ → ℕ → ℕ → ℕ
row_at cells c r = cells + r * (c + 1)

-- What is wrong with the line at a place: SHEET where it is no line of c bytes, and SYMBOL where it is one and has a
-- byte that is not in the code list.
abbrev pub RowFault : List ℕ → ℕ → ℕ → ℕ → Fault → Type 0
RowFault sheet c at line f =
    ((f ≡ Sheet line) × (IsLine sheet at (at + c) → ⊥))
    ⊎ ((f ≡ Symbol line)
    × IsLine sheet at (at + c)
    × ((j : ℕ) × (j < c) × (symbol_of (get_or sheet (at + j) 0) ≡ None)))

-- the first row at fault of n rows that start at a place and a line
pub record FirstFault (sheet : List ℕ) (c n at line : ℕ) (f : Fault) : Type 0 where
  pub row : ℕ
  pub few : row < n
  pub before : (r : ℕ) → r < row → IsRow sheet c (row_at at c r)
  pub wrong : RowFault sheet c (row_at at c row) (line + row) f

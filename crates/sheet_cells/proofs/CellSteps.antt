-- A row of cells and the section of the columns, part by part.
-- Assumes nothing.
use mathlib.Core.Bool.{true, false}
use mathlib.Core.List.{List, []}
use mathlib.Core.Path.{◌≡◌, ap, ◌∙◌}
use Prim.Native.Nat.{ℕ, ◌+◌, ◌-◌, ◌≤◌}
use borrow.Author.Tests.{eq-eqb, ne_eqb}
use lib.ListN.{take, drop}
use Rattle.std.proofs.Common.{Some, None, Ok, Err}
use Rattle.std.specs.List.{list_all}
use Rattle.sheet_cells.specs.Cells.{is_symbol, cells_at, row_to, row_of, row_judge, matrix_of}
use Rattle.sheet_lines.proofs.ByteLaws.{all_every, text_slice}
use Rattle.sheet_lines.specs.Bytes.{bytes, text_of, every}
use Rattle.sheet_lines.specs.Count.{on_place, count_of}
use Rattle.sheet_lines.specs.Counting.{on_count, on_part}
use Rattle.sheet_lines.specs.Line.{line_end}
use Rattle.sheet_lines.specs.Section.{item, fault, section}
use Rattle.sheet_lines.specs.declared.Fault.{Fault}
use Rattle.sheet_lines.specs.declared.Fault.TheVariants.{Sheet, Symbol}

-- the bytes of a part of the sheet are listed where the text between its places is
pub listed_text : (sheet : List ℕ) (at end : ℕ) → at ≤ end
    → list_all is_symbol (take (end - at) (drop at sheet)) ≡ every is_symbol (text_of sheet at end)
listed_text sheet at end h = all_every is_symbol _ ∙ ap (every is_symbol) (text_slice sheet at end h)

module _ (c : ℕ) (sheet : List ℕ) (at line end : ℕ) where
  -- another length
  pub row_length : (end - at ≡ c → ⊥) → fault (Sheet line) ≡ row_to c sheet at line end
  unfolding row_to
  row_length n = rw (ne_eqb _ _ n)

  -- a byte that is not listed
  pub row_unlisted : end - at ≡ c → every is_symbol (text_of sheet at end) ≡ false
      → fault (Symbol line) ≡ row_to c sheet at line end
  unfolding row_to
  row_unlisted e f = rw (eq-eqb _ _ e, f)

  -- a row
  pub row_whole : end - at ≡ c → every is_symbol (text_of sheet at end) ≡ true
      → item at (end + 1) ≡ row_to c sheet at line end
  unfolding row_to
  row_whole e f = rw (eq-eqb _ _ e, f)

  -- the row of the line at a place
  pub row_line : line_end sheet at ≡ Some end → row_to c sheet at line end ≡ row_of c sheet at line
  unfolding row_of on_place
  row_line e = rw e

-- no line at a place
pub row_no_line : (c : ℕ) (sheet : List ℕ) (at line : ℕ) → line_end sheet at ≡ None
    → fault (Sheet line) ≡ row_of c sheet at line
unfolding row_of on_place
row_no_line c sheet at line e = rw e

module _ (t : ℕ) (sheet : List ℕ) (at line : ℕ) where
  -- no count
  pub matrix_no_count : (f : Fault) → count_of (bytes "columns ") 0 65535 sheet at line ≡ Err f
      → Err f ≡ matrix_of t sheet at line
  unfolding matrix_of on_count
  matrix_no_count f e = rw e

  module _ (c cells : ℕ) (counted : count_of (bytes "columns ") 0 65535 sheet at line ≡ Ok (c, cells)) where
    -- a row at fault
    pub matrix_fault : (f : Fault) → (section (row_judge c sheet) t cells (line + 1) []).part ≡ Err f
        → Err f ≡ matrix_of t sheet at line
    unfolding matrix_of on_count on_part
    matrix_fault f e = rw (counted, e)

    -- the cells
    pub matrix_whole : (next : ℕ) → (section (row_judge c sheet) t cells (line + 1) []).part ≡ Ok next
        → Ok (cells_at c cells next) ≡ matrix_of t sheet at line
    unfolding matrix_of on_count on_part
    matrix_whole next e = rw (counted, e)

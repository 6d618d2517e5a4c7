-- The turns of the loop that puts a column's cells.
-- Assumes nothing.
use mathlib.Core.List.{List}
use mathlib.Core.Path.{◌≡◌, refl, ap, sym, ◌∙◌}
use Prim.Native.Nat.{ℕ, zero, suc, ◌+◌, ◌<◌}
use native.Mathlib.Nat.{not-suc-le-zero}
use native.Mathlib.Omega.{arith}
use lib.ListN.{length, get_or, set, length-set}
use lib.Seq.{get_or-set_same, get_or-set_other}
use Rattle.std.proofs.Common.{Some, unwrap_or}
use Rattle.parsimony.proofs.Order.{by_eq}
use Rattle.sheet_cells.specs.IsRow.{row_at}
use Rattle.sheet.specs.Cells.{Filled}
use Rattle.sheet_symbols.specs.Code.{symbol_set}
use Rattle.sheet_symbols.specs.Symbol.{answer, symbol_of}

-- the set of a byte is what it stands for, or empty where it is not listed
pub set_of_symbol : (byte : ℕ) → unwrap_or (symbol_of byte) 0 ≡ symbol_set byte
unfolding symbol_of answer
set_of_symbol byte = go (symbol_set byte)
  where
    go : (set : ℕ) → unwrap_or (answer set) 0 ≡ set
    go zero = refl
    go (suc set) = refl

pub set_listed : (byte set : ℕ) → symbol_of byte ≡ Some set → symbol_set byte ≡ set
set_listed byte set e = sym (set_of_symbol byte) ∙ ap (λ answer. unwrap_or answer 0) e

pub filled_none : (sheet : List ℕ) (c at j : ℕ) (cells : List ℕ) → length cells ≡ 512 → Filled sheet c at j 0 cells
filled_none sheet c at j cells long = record { long = long; cell = λ r h. absurd (not-suc-le-zero h) }

pub filled_more : (sheet : List ℕ) (c at j n : ℕ) (cells : List ℕ) (v : ℕ) → n < 512
    → v ≡ symbol_set (get_or sheet (row_at at c n + j) 0) → Filled sheet c at j n cells
    → Filled sheet c at j (n + 1) (set cells n v)
filled_more sheet c at j n cells v low is filled =
    let long = filled.long in
    record {
      long = length-set cells n v ∙ filled.long;
      cell = λ r h. by_eq r n
          (λ e. ap (λ k. get_or (set cells n v) k 0) e ∙ get_or-set_same cells n v 0 (omega arith) ∙ is
          ∙ ap (λ k. symbol_set (get_or sheet (row_at at c k + j) 0)) (sym e))
          (λ ne. get_or-set_other cells n r v 0 ne ∙ filled.cell r (omega arith));
    }

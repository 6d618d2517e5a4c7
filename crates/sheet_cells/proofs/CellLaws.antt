-- What the section of the columns says: row r, column j stands at its place and is a symbol; or which row is the
-- first at fault, and how.
-- Assumes nothing.
use mathlib.Core.List.{List, [], ◌∷◌, ◌++◌}
use mathlib.Core.Path.{◌≡◌, refl, subst}
use Prim.Native.Nat.{ℕ, zero, suc, ◌+◌, ◌*◌, ◌<◌, ◌≤◌}
use native.Mathlib.Nat.{suc-mul, zero-mul}
use native.Mathlib.Omega.{arith}
use Rattle.std.proofs.Common.{Result, Ok, Err}
use Rattle.sheet_cells.specs.Cells.{cells_at, row_judge, matrix_of}
use Rattle.sheet_cells.specs.declared.Matrix.{Matrix}
use Rattle.sheet_cells.specs.IsRow.{IsRow, row_at, RowFault, FirstFault}
use Rattle.sheet_lines.proofs.CountLaws.{count_read}
use Rattle.sheet_lines.specs.Bytes.{bytes}
use Rattle.sheet_lines.specs.Count.{count_of}
use Rattle.sheet_lines.specs.Counting.{on_count, on_part}
use Rattle.sheet_lines.specs.Section.{Item, follow, section}
use Rattle.sheet_lines.specs.declared.Fault.{Fault}
use Rattle.sheet_cells.proofs.RowLaws.{RowIs, sound, wrong, row_is}

module _ (sheet : List ℕ) (c : ℕ) where
  -- the rows from the second on are rows from the first on
  all_rows : (n at : ℕ) → IsRow sheet c at → ((r : ℕ) → r < n → IsRow sheet c (row_at (at + (c + 1)) c r))
      → (r : ℕ) → r < suc n → IsRow sheet c (row_at at c r)
  all_rows n at first rest zero h =
      let here : at ≡ at + zero * (c + 1) = omega (arith, zero-mul (c + 1)) in
      subst (IsRow sheet c) here first
  all_rows n at first rest (suc r) h =
      let here : at + (c + 1) + r * (c + 1) ≡ at + suc r * (c + 1) = omega (arith, suc-mul r (c + 1)) in
      subst (IsRow sheet c) here (rest r (omega arith))

  -- the rows of a section that is read
  pub rows_read : (n at line next : ℕ) (before : List ℕ) → (section (row_judge c sheet) n at line before).part ≡ Ok next
      → (next ≡ row_at at c n) × ((r : ℕ) → r < n → IsRow sheet c (row_at at c r))
  unfolding section follow row_judge
  rows_read zero at line next before e =
      let same : at ≡ next = cc in
      (omega (arith, zero-mul (c + 1)), λ r h. absurd (omega arith))
  rows_read (suc n) at line next before e =
      by_row (row_is sheet c at line) (λ i items. rows_read n i (line + 1) next items) e
    where
      by_row : {x : Item ℕ} → RowIs sheet c at line x
          → ((i : ℕ) (items : List ℕ) → (section (row_judge c sheet) n i (line + 1) items).part ≡ Ok next
          → (next ≡ row_at i c n) × ((r : ℕ) → r < n → IsRow sheet c (row_at i c r)))
          → (follow x before (λ items i. section (row_judge c sheet) n i (line + 1) items)).part ≡ Ok next
          → (next ≡ row_at at c (suc n)) × ((r : ℕ) → r < suc n → IsRow sheet c (row_at at c r))
      by_row (sound i here row) rest h =
          let r = rest i (before ++ at ∷ []) h in
          let last = r.0 in (
            omega (arith, suc-mul n (c + 1)),
            all_rows n at row (subst (λ p. (k : ℕ) → k < n → IsRow sheet c (row_at p c k)) here r.1),
          )
      by_row (wrong f w) rest h = let z : ◌≡◌ {A = ℕ} 0 1 = cc in absurd (omega arith)

  -- the first fault of a section that is refused
  pub cell_rows_refused : (n at line : ℕ) (before : List ℕ) (f : Fault)
      → (section (row_judge c sheet) n at line before).part ≡ Err f
      → FirstFault sheet c n at line f
  unfolding section follow row_judge
  cell_rows_refused zero at line before f e = let z : ◌≡◌ {A = ℕ} 0 1 = cc in absurd (omega arith)
  cell_rows_refused (suc n) at line before f e =
      by_row (row_is sheet c at line) (λ i items. cell_rows_refused n i (line + 1) items f) e
    where
      later : (i : ℕ) → i ≡ at + (c + 1) → IsRow sheet c at → FirstFault sheet c n i (line + 1) f
          → FirstFault sheet c (suc n) at line f
      later i here row first =
          let k = first.row in
          let few = first.few in
          let place : row_at i c k ≡ row_at at c (suc k) = omega (arith, suc-mul k (c + 1)) in
          let number : line + 1 + k ≡ line + suc k = omega arith in
          record {
            row = suc k;
            few = omega arith;
            before =
                all_rows k at row (subst (λ p. (r : ℕ) → r < k → IsRow sheet c (row_at p c r)) here first.before);
            wrong = subst (λ p. RowFault sheet c p (line + suc k) f) place
                (subst (λ l. RowFault sheet c (row_at i c k) l f) number first.wrong);
          }

      by_row : {x : Item ℕ} → RowIs sheet c at line x
          → ((i : ℕ) (items : List ℕ) → (section (row_judge c sheet) n i (line + 1) items).part ≡ Err f
          → FirstFault sheet c n i (line + 1) f)
          → (follow x before (λ items i. section (row_judge c sheet) n i (line + 1) items)).part ≡ Err f
          → FirstFault sheet c (suc n) at line f
      by_row (sound i here row) rest h = later i here row (rest i (before ++ at ∷ []) h)
      by_row (wrong g w) rest h =
          let same : g ≡ f = cc in
          let place : at ≡ row_at at c 0 = omega (arith, zero-mul (c + 1)) in
          let number : line ≡ line + 0 = omega arith in
          record {
            row = 0;
            few = omega arith;
            before = λ r l. absurd (omega arith);
            wrong = subst (λ p. RowFault sheet c p (line + 0) f) place
                (subst (λ l. RowFault sheet c at l f) number (subst (RowFault sheet c at line) same w));
          }

-- the section of the columns that is read: the columns are at most 65,535, and row r, column j stands at its place
pub record CellsRead (sheet : List ℕ) (t c cells next : ℕ) : Type 0 where
  pub columns : c ≤ 65535
  pub after : next ≡ row_at cells c t
  pub rows : (r : ℕ) → r < t → IsRow sheet c (row_at cells c r)

pub cells_read : (t : ℕ) (sheet : List ℕ) (at line : ℕ) (m : Matrix) → matrix_of t sheet at line ≡ Ok m
    → CellsRead sheet t m.columns m.cells m.next
unfolding matrix_of on_count on_part
cells_read t sheet at line m e = by_count (count_of (bytes "columns ") 0 65535 sheet at line) refl e
  where
    by_part : (n from : ℕ) → count_of (bytes "columns ") 0 65535 sheet at line ≡ Ok (n, from) → (p : Result ℕ Fault)
        → (section (row_judge n sheet) t from (line + 1) []).part ≡ p
        → on_part p Err (λ i. Ok (cells_at n from i)) ≡ Ok m → CellsRead sheet t m.columns m.cells m.next
    by_part n from counted (Err f) r h = let z : ◌≡◌ {A = ℕ} 0 1 = cc in absurd (omega arith)
    by_part n from counted (Ok i) r h =
        let same : ◌≡◌ {A = Matrix} (cells_at n from i) m = cc in
        let rows = rows_read sheet n t from (line + 1) i [] r in
        let count = count_read (bytes "columns ") 0 65535 sheet at line n from counted in
        subst (λ k. CellsRead sheet t k.columns k.cells k.next) same
        (record { columns = count.small; after = rows.0; rows = rows.1 })

    by_count : (k : Result (ℕ × ℕ) Fault) → count_of (bytes "columns ") 0 65535 sheet at line ≡ k
        → on_count k Err
        (λ n from. on_part (section (row_judge n sheet) t from (line + 1) []).part Err (λ i. Ok (cells_at n from i)))
        ≡ Ok m
        → CellsRead sheet t m.columns m.cells m.next
    by_count (Err f) r h = let z : ◌≡◌ {A = ℕ} 0 1 = cc in absurd (omega arith)
    by_count (Ok (n, from)) r h = by_part n from r (section (row_judge n sheet) t from (line + 1) []).part refl h

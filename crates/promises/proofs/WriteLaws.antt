-- Lent lists with room can be written: any entries at the front, and all beyond as before.
-- Assumes nothing.
use mathlib.Core.List.{List, ◌++◌}
use mathlib.Core.Path.{◌≡◌, ap, sym, ◌∙◌}
use Prim.Native.Nat.{ℕ, ◌+◌, ◌*◌, ◌-◌, ◌≤◌, ◌<◌}
use native.Mathlib.Omega.{arith}
use lib.ListN.{length, get_or, drop, get_or-append}
use lib.Seq.{length_front, length-take-le, get_or-append-add, get_or-drop}
use Rattle.parsimony.specs.Filled.{list_of, joined}
use Rattle.parsimony.specs.Written.{Written, entries, Below, Each}
use Rattle.parsimony.proofs.ColumnLaws.{place}
use Rattle.parsimony.proofs.FilledLaws.{list_long, list_at, joined_long, joined_at}
use Rattle.promises.specs.RowRoom.{HoldsRows}

-- a list whose first k entries give way to others, so that it is right
module _ (front before : List ℕ) (k : ℕ) (own : length front ≡ k) (fits : k ≤ length before) where
  front_at : (i : ℕ) → i < k → get_or (front ++ drop k before) i 0 ≡ get_or front i 0
  front_at i h = get_or-append front (drop k before) 0 i (omega arith)

  front_written : (Right : (ℕ → ℕ) → Type 0) → Right (entries (front ++ drop k before))
      → Written (Below k) Right before (front ++ drop k before)
  front_written Right right =
      record {
        right = right;
        long = length_front before front k (own ∙ sym (length-take-le k before fits));
        kept = λ i none.
            let over : k ≤ i = omega arith in
            let apart : i ≡ length front + (i - k) = omega arith in
            let whole : k + (i - k) ≡ i = omega arith in
            ap (λ q. get_or (front ++ drop k before) q 0) apart
            ∙ get_or-append-add front (drop k before) (i - k) 0
            ∙ get_or-drop k before (i - k) 0
            ∙ ap (λ q. get_or before q 0) whole;
      }

-- a list with room for n entries can be written with any n
pub list_made : (n : ℕ) (f : ℕ → ℕ) (before : List ℕ) → n ≤ length before
    → (after : List ℕ) × Written (Below n) (Each n (λ i x. x ≡ f i)) before after
list_made n f before fits =
    let own = list_long n f in (
      list_of n f ++ drop n before,
      front_written (list_of n f) before n own fits (Each n (λ i x. x ≡ f i))
          (λ i h. front_at (list_of n f) before n own fits i h ∙ list_at n f i h),
    )

-- a row room with room for n rows of s can be written with any n rows
pub row_room_made : (R : ℕ → ℕ → ℕ) (n s : ℕ) (before : List ℕ) → n * s ≤ length before
    → (after : List ℕ) × Written (Below (n * s)) (HoldsRows R n s) before after
row_room_made R n s before fits =
    let rows = joined n (λ v. list_of s (R v)) in
    let each : (v : ℕ) → v < n → length (list_of s (R v)) ≡ s = λ v h. list_long s (R v) in
    let own = joined_long n s (λ v. list_of s (R v)) each in (
      rows ++ drop (n * s) before,
      front_written rows before (n * s) own fits (HoldsRows R n s)
          (λ v x hv hx. front_at rows before (n * s) own fits _ (place v x n s hv hx)
          ∙ joined_at n s (λ v. list_of s (R v)) each v x hv hx
          ∙ list_at s (R v) x hx),
    )

-- what is written is right by whatever its entries have
pub written_right : {n : ℕ} {Right Other : (ℕ → ℕ) → Type 0} {before after : List ℕ}
    → Written (Below n) Right before after → Other (entries after) → Written (Below n) Other before after
written_right w right = record { right = right; long = w.long; kept = w.kept }

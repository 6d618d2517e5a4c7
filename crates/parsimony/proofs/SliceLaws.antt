-- The s entries of a list from a place on, as a slice: its length and its entries; the place of a row among rows of s.
-- Assumes nothing.
use Rattle.std.proofs.Common.{◌≡◌, ℕ, suc, ◌+◌, ◌*◌, ◌-◌, ◌<◌, ◌≤◌, List, length, get_or, set, drop, subst, sym, ◌∙◌, arith, length-drop, length-take-le, get_or-drop, get_or-take}
use Rattle.std.specs.List.{slice_range}
use lib.Seq.{get_or-set_same, get_or-set_other}
use Rattle.parsimony.proofs.Order.{by_eq}
use native.Mathlib.Nat.{suc-mul, mul-le-mul_right}

module _ (l : List ℕ) (at s : ℕ) where
  pub part_length : at + s ≤ length l → length (slice_range l at (at + s)) ≡ s
  part_length within =
      let rest = length-drop at l in length-take-le (at + s - at) (drop at l) (omega arith) ∙ omega arith

  pub part_entry : (x : ℕ) → x < s → get_or (slice_range l at (at + s)) x 0 ≡ get_or l (at + x) 0
  part_entry x h = get_or-take (at + s - at) (drop at l) x 0 (omega arith) ∙ get_or-drop at l x 0

-- row u of n rows of s entries ends within the n * s entries
pub row_inside : (u n s : ℕ) → u < n → u * s + s ≤ n * s
row_inside u n s h = let step = suc-mul u s in let whole : suc u * s ≤ n * s = mul-le-mul_right s h in omega arith

-- entries that are f of their places below x, and one more that is written at x
pub filled_more : (f : ℕ → ℕ) (l : List ℕ) (x v : ℕ) → x < length l → v ≡ f x
    → ((y : ℕ) → y < x → get_or l y 0 ≡ f y) → (y : ℕ) → y < x + 1 → get_or (set l x v) y 0 ≡ f y
filled_more f l x v there here before y h =
    by_eq y x
    (λ e. subst (λ k. get_or (set l x v) k 0 ≡ f k) (sym e) (get_or-set_same l x v 0 there ∙ here))
    (λ ne. get_or-set_other l x y v 0 ne ∙ before y (omega arith))

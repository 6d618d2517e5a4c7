-- What stands where in cells and handed entries that are filled by a rule.
-- Assumes nothing.
use mathlib.Core.Path.{◌≡◌, ap, sym, ◌∙◌}
use Prim.Native.Nat.{ℕ, suc, ◌+◌, ◌*◌, ◌≤◌, ◌<◌}
use native.Mathlib.Nat.{suc-mul, mul_assoc, add-mul, mul-le-mul_right}
use native.Mathlib.Omega.{arith}
use lib.ListN.{length, get_or}
use Rattle.parsimony.specs.Filled.{list_of, joined}
use Rattle.parsimony.proofs.FilledLaws.{list_long, list_at, joined_long, joined_at}
use Rattle.cuts.specs.Filled.{cells_by, entries_by}

module _ (t c : ℕ) (cell : ℕ → ℕ → ℕ) where
  pub cells_long_lem : length (cells_by t c cell) ≡ t * c
  unfolding cells_by
  cells_long_lem = joined_long t c (λ r. list_of c (cell r)) (λ r h. list_long c (cell r))

  pub cells_at : (r j : ℕ) → r < t → j < c → get_or (cells_by t c cell) (r * c + j) 0 ≡ cell r j
  unfolding cells_by
  cells_at r j hr hj =
      joined_at t c (λ r. list_of c (cell r)) (λ r h. list_long c (cell r)) r j hr hj ∙ list_at c (cell r) j hj

module _ (c h s : ℕ) (entry : ℕ → ℕ → ℕ → ℕ) where
  column_long : (j : ℕ) → length (joined h (λ k. list_of s (entry j k))) ≡ h * s
  column_long j = joined_long h s (λ k. list_of s (entry j k)) (λ k i. list_long s (entry j k))

  pub entries_long : length (entries_by c h s entry) ≡ c * h * s
  unfolding entries_by
  entries_long =
      joined_long c (h * s) (λ j. joined h (λ k. list_of s (entry j k))) (λ j i. column_long j) ∙ sym (mul_assoc c h s)

  pub entries_at : (j k x : ℕ) → j < c → k < h → x < s
      → get_or (entries_by c h s entry) ((j * h + k) * s + x) 0 ≡ entry j k x
  unfolding entries_by
  entries_at j k x hj hk hx =
      let spread : (j * h + k) * s ≡ j * h * s + k * s = add-mul (j * h) k s in
      let turned = mul_assoc j h s in
      let inside : k * s + x < h * s = let step = suc-mul k s in
      let most : suc k * s ≤ h * s = mul-le-mul_right s hk in omega arith in
      ap (λ i. get_or (joined c (λ j. joined h (λ k. list_of s (entry j k)))) i 0) (omega arith)
      ∙ joined_at c (h * s) (λ j. joined h (λ k. list_of s (entry j k))) (λ j i. column_long j) j (k * s + x) hj inside
      ∙ joined_at h s (λ k. list_of s (entry j k)) (λ k i. list_long s (entry j k)) k x hk hx
      ∙ list_at s (entry j k) x hx

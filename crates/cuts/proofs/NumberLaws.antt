-- Laws of numbering anew: new numbers and the originals they stand for.
-- Assumes nothing.
use mathlib.Core.Path.{◌≡◌, refl, ap, ap₂, sym, ◌∙◌, subst}
use mathlib.Core.Bool.{Bool, true, false}
use Prim.Native.Nat.{ℕ, zero, suc, ◌+◌, ◌*◌, ◌≤◌, ◌<◌}
use native.Mathlib.Nat.{one-mul, zero-mul}
use native.Mathlib.Omega.{arith}
use borrow.Author.Tests.{eq-eqb, ne_eqb}
use lib.Dec.{eqb}
use Rattle.parsimony.specs.Sum.{sum}
use Rattle.parsimony.specs.Test.{both, pick}
use Rattle.parsimony.proofs.Order.{by_lt, by_eq, pick_true, pick_false}
use Rattle.parsimony.proofs.Sums.{sum_zero, sum_suc, sum_same, sum_le, sum_before}
use Rattle.parsimony.proofs.TipLaws.{sum_ones}
use Rattle.cuts.specs.Numbering.{renumber, original}

-- each number below n is kept or not
pub record Marks (n : ℕ) (keep : ℕ → ℕ) : Type 0 where
  pub most : (u : ℕ) → u < n → keep u ≤ 1

pub marks_lower : (n : ℕ) (keep : ℕ → ℕ) → Marks (suc n) keep → Marks n keep
marks_lower n keep marks = record { most = λ u h. marks.most u (omega arith) }

module _ (keep : ℕ → ℕ) where
  renumber_zero : renumber keep 0 ≡ 0
  unfolding renumber
  renumber_zero = sum_zero keep

  pub renumber_suc : (u : ℕ) → renumber keep (suc u) ≡ renumber keep u + keep u
  unfolding renumber
  renumber_suc u = sum_suc keep u

  -- new numbers keep the order
  pub renumber_lt : (u w : ℕ) → keep u ≡ 1 → u < w → renumber keep u < renumber keep w
  unfolding renumber
  renumber_lt u w k h = let part = sum_before keep w u h in omega arith

  pub renumber_mono : (u w : ℕ) → u ≤ w → renumber keep u ≤ renumber keep w
  unfolding renumber
  renumber_mono u w h =
      by_eq u w (λ e. let same = ap (sum keep) e in omega arith)
      (λ ne. let part = sum_before keep w u (omega arith) in omega arith)

  -- a new number is at most the old
  pub renumber_most : (n : ℕ) → Marks n keep → renumber keep n ≤ n
  unfolding renumber
  renumber_most n marks = let all = sum_le keep (λ u. 1) n marks.most in let ones = sum_ones n in omega arith

  -- and tell the kept numbers apart
  pub renumber_one : (u w : ℕ) → keep u ≡ 1 → keep w ≡ 1 → renumber keep u ≡ renumber keep w → u ≡ w
  renumber_one u w ku kw e =
      by_lt u w (λ h. absurd (let l = renumber_lt u w ku h in omega arith))
      (λ h. by_lt w u (λ i. absurd (let l = renumber_lt w u kw i in omega arith)) (λ i. omega arith))

  original_suc : (n i : ℕ)
      → original keep (suc n) i ≡ pick (both (eqb (keep n) 1) (eqb (renumber keep n) i)) n (original keep n i)
  unfolding original
  original_suc n i = refl

  original_here : (n i : ℕ) → keep n ≡ 1 → renumber keep n ≡ i → original keep (suc n) i ≡ n
  unfolding both
  original_here n i k e =
      original_suc n i
      ∙ pick_true n (original keep n i) (ap₂ both (eq-eqb (keep n) 1 k) (eq-eqb (renumber keep n) i e))

  original_lower : (n i : ℕ) → i < renumber keep n → original keep (suc n) i ≡ original keep n i
  unfolding both
  original_lower n i h =
      original_suc n i
      ∙ pick_false n (original keep n i)
      (ap (both (eqb (keep n) 1)) (ne_eqb (renumber keep n) i (λ e. omega arith)) ∙ never (eqb (keep n) 1))
    where
      never : (b : Bool) → both b false ≡ false
      never true = refl
      never false = refl

  -- the original of a new number is below n, is kept, and has that number
  pub original_is : (n i : ℕ) → Marks n keep → i < renumber keep n
      → (original keep n i < n) × (keep (original keep n i) ≡ 1) × (renumber keep (original keep n i) ≡ i)
  original_is zero i marks h = absurd (let z = renumber_zero in omega arith)
  original_is (suc n) i marks h =
      let step = renumber_suc n in
      let one = marks.most n (omega arith) in
      by_lt i (renumber keep n)
      (λ low. let (a, b, c) = original_is n i (marks_lower n keep marks) low in
      let e = original_lower n i low in
      subst (λ u. (u < suc n) × (keep u ≡ 1) × (renumber keep u ≡ i)) (sym e) (omega arith, b, c))
      (λ high. let k : keep n ≡ 1 = omega arith in
      let r : renumber keep n ≡ i = omega arith in
      subst (λ u. (u < suc n) × (keep u ≡ 1) × (renumber keep u ≡ i)) (sym (original_here n i k r)) (omega arith, k, r))

  -- and a kept number below n is the original of its own
  pub original_own : (n u : ℕ) → Marks n keep → u < n → keep u ≡ 1 → original keep n (renumber keep u) ≡ u
  original_own n u marks h k =
      let (a, b, c) = original_is n (renumber keep u) marks (renumber_lt u n k h) in
      renumber_one (original keep n (renumber keep u)) u b k c

  -- a sum over the new numbers is the sum over the kept originals
  pub sum_kept : (f : ℕ → ℕ) (n : ℕ) → Marks n keep
      → sum (λ i. f (original keep n i)) (renumber keep n) ≡ sum (λ u. keep u * f u) n
  sum_kept f zero marks =
      ap (sum (λ i. f (original keep 0 i))) renumber_zero
      ∙ sum_zero (λ i. f (original keep 0 i))
      ∙ sym (sum_zero (λ u. keep u * f u))
  sum_kept f (suc n) marks =
      let lower : sum (λ i. f (original keep (suc n) i)) (renumber keep n) ≡ sum (λ u. keep u * f u) n =
      sum_same _ _ (renumber keep n) (λ i h. ap f (original_lower n i h)) ∙ sum_kept f n (marks_lower n keep marks) in
      let next = sum_suc (λ u. keep u * f u) n in
      let step = renumber_suc n in
      let one = marks.most n (omega arith) in
      by_eq (keep n) 1
      (λ k. let long : renumber keep (suc n) ≡ suc (renumber keep n) = omega arith in
      let last : f (original keep (suc n) (renumber keep n)) ≡ f n = ap f (original_here n (renumber keep n) k refl) in
      let here : keep n * f n ≡ f n = ap (λ m. m * f n) k ∙ one-mul (f n) in
      let split = sum_suc (λ i. f (original keep (suc n) i)) (renumber keep n) in
      ap (sum (λ i. f (original keep (suc n) i))) long ∙ omega arith)
      (λ ne. let long : renumber keep (suc n) ≡ renumber keep n = omega arith in
      let z : keep n ≡ 0 = omega arith in
      let here : keep n * f n ≡ 0 = ap (λ m. m * f n) z ∙ zero-mul (f n) in
      ap (sum (λ i. f (original keep (suc n) i))) long ∙ omega arith)

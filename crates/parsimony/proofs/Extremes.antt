-- The loops that keep the lowest or the highest of the values looked at: where they start, and each turn. One law for
-- both: R is `at most`, or `at least`.
-- Assumes nothing.
use mathlib.Core.Logic.{◌⊎◌, ⊎_elim}
use mathlib.Core.Path.{◌≡◌, subst, sym}
use Prim.Native.Nat.{ℕ, ◌+◌, ◌<◌, ◌≤◌}
use native.Mathlib.Omega.{arith}
use borrow.Author.Count.{below_none, below_more}

-- the best so far is before every value looked at, and the bound is before it if the bound is before all of them
pub record Extreme (R : ℕ → ℕ → Type 0) (f : ℕ → ℕ) (bound best i : ℕ) : Type 0 where
  pub every : (k : ℕ) → k < i → R best (f k)
  pub told : ((k : ℕ) → k < i → R bound (f k)) → R bound best

module _ {R : ℕ → ℕ → Type 0} {f : ℕ → ℕ} {bound : ℕ} where
  -- no value has been looked at
  pub extreme_none : {best : ℕ} → R bound best → Extreme R f bound best 0
  extreme_none before = record { every = below_none _; told = λ all. before }

  -- one value more
  extreme_more : {best next i : ℕ} → ((a b c : ℕ) → R a b → R b c → R a c) → Extreme R f bound best i
      → R next best → R next (f i) → (next ≡ best) ⊎ (next ≡ f i) → Extreme R f bound next (i + 1)
  extreme_more {i = i} through so_far old new one =
      record {
        every = below_more _ _ (λ k h. through _ _ _ old (so_far.every k h)) new;
        told = λ all. ⊎_elim (λ e. subst (R bound) (sym e) (so_far.told (λ k h. all k (omega arith))))
            (λ e. subst (R bound) (sym e) (all i (omega arith))) one;
      }

-- the lowest so far: each value is at least that; and it is at least the bound if each is
abbrev pub LowestSoFar : (ℕ → ℕ) → ℕ → ℕ → ℕ → Type 0
LowestSoFar f bound best i = Extreme ◌≤◌ f bound best i

pub lowest_more : {f : ℕ → ℕ} {bound best next i : ℕ} → LowestSoFar f bound best i → next ≤ best → next ≤ f i
    → (next ≡ best) ⊎ (next ≡ f i) → LowestSoFar f bound next (i + 1)
lowest_more = extreme_more (λ a b c h k. omega arith)

-- the highest so far: each value is at most that; and it is at most the bound if each is
abbrev pub HighestSoFar : (ℕ → ℕ) → ℕ → ℕ → ℕ → Type 0
HighestSoFar f bound best i = Extreme (λ a b. b ≤ a) f bound best i

pub highest_more : {f : ℕ → ℕ} {bound best next i : ℕ} → HighestSoFar f bound best i → best ≤ next → f i ≤ next
    → (next ≡ best) ⊎ (next ≡ f i) → HighestSoFar f bound next (i + 1)
highest_more = extreme_more (λ a b c h k. omega arith)

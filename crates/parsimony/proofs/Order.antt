-- Case splits on numbers, what `pick` and `at` pick, and two inductions over node numbers.
-- Assumes nothing.
use mathlib.Core.Bool.{Bool, true, false}
use mathlib.Core.Path.{◌≡◌, ap}
use Prim.Native.Nat.{ℕ, zero, suc, ◌+◌, ◌≤◌, ◌<◌}
use native.Mathlib.Decide.{dec_lt, ℕ_discrete}
use native.Mathlib.Nat.{lt_of_not-le, le_of_suc-le-suc, not-suc-le-zero}
use native.Mathlib.Omega.{arith}
use borrow.Author.Tests.{eq-eqb, ne_eqb}
use Rattle.parsimony.specs.Test.{pick, at}

-- a is below b, or not
pub by_lt {ℓ} : {X : Type ℓ} (a b : ℕ) → (a < b → X) → (b ≤ a → X) → X
by_lt {X = X} a b f g = elim (dec_lt a b) [ yes h ↦ f h | no h ↦ g (le_of_suc-le-suc (lt_of_not-le h)) ]

-- a is b, or not
pub by_eq {ℓ} : {X : Type ℓ} (a b : ℕ) → (a ≡ b → X) → ((a ≡ b → ⊥) → X) → X
by_eq {X = X} a b f g = elim (ℕ_discrete a b) [ yes h ↦ f h | no h ↦ g h ]

pub pick_true {ℓ} : {A : Type ℓ} {b : Bool} (x z : A) → b ≡ true → pick b x z ≡ x
unfolding pick
pick_true x z h = ap (λ b. pick b x z) h

pub pick_false {ℓ} : {A : Type ℓ} {b : Bool} (x z : A) → b ≡ false → pick b x z ≡ z
unfolding pick
pick_false x z h = ap (λ b. pick b x z) h

pub at_same : (u m a : ℕ) → u ≡ a → at u m a ≡ m
unfolding at
at_same u m a h = pick_true m 0 (eq-eqb u a h)

pub at_other : (u m a : ℕ) → (u ≡ a → ⊥) → at u m a ≡ 0
unfolding at
at_other u m a h = pick_false m 0 (ne_eqb u a h)

-- induction upwards: each number from all below it
pub strong {ℓ} : (P : ℕ → Type ℓ) → ((n : ℕ) → ((m : ℕ) → m < n → P m) → P n) → (n : ℕ) → P n
strong P step n = go (suc n) n (omega arith)
  where
    go : (b m : ℕ) → m < b → P m
    go zero m h = absurd (not-suc-le-zero h)
    go (suc b) m h = step m (λ k i. go b k (omega arith))

-- induction downwards: the last, and each number below it from all between it and the last
pub downward {ℓ} : (last : ℕ) (P : ℕ → Type ℓ)
    → ((u : ℕ) → u ≤ last → ((v : ℕ) → u < v → v ≤ last → P v) → P u)
    → (u : ℕ) → u ≤ last → P u
downward last P step u h = go (suc last) u h (omega arith)
  where
    go : (b u : ℕ) → u ≤ last → last < u + b → P u
    go zero u h i = absurd (omega arith)
    go (suc b) u h i = step u h (λ v j k. go b v k (omega arith))

-- What an answer that tells whether a statement holds says, and how a test of all numbers below a bound answers.
-- Assumes nothing.
use mathlib.Core.Bool.{Bool, true, false, not}
use mathlib.Core.Path.{◌≡◌, refl, subst}
use Prim.Native.Nat.{ℕ, ◌≤◌, ◌<◌}
use native.Mathlib.Omega.{arith}
use borrow.Author.Tests.{not-true, not-false, eqb-true, eqb-false}
use lib.Dec.{eqb}
use Rattle.parsimony.specs.Tells.{Told, Tells}

-- yes: it holds
pub told_yes : {P : Type 0} {b : Bool} → Tells P b → b ≡ true → P
told_yes {P} t e = subst (Told P) e t.told

-- no: it does not
pub told_no : {P : Type 0} {b : Bool} → Tells P b → b ≡ false → P → ⊥
told_no {P} t e = subst (Told P) e t.told

-- the same of a test that is turned round
pub unless_yes : {P : Type 0} {b : Bool} → Tells P b → not b ≡ false → P
unless_yes {P} {b} t e = told_yes t (not-false b e)

pub unless_no : {P : Type 0} {b : Bool} → Tells P b → not b ≡ true → P → ⊥
unless_no {P} {b} t e = told_no t (not-true b e)

-- what tells of P tells of Q, where each follows from the other
pub tells_same : {P Q : Type 0} {b : Bool} → (P → Q) → (Q → P) → Tells P b → Tells Q b
tells_same {b = true} f g t = record { told = f t.told }
tells_same {b = false} f g t = record { told = λ q. t.told (g q) }

-- no to all numbers below n: one of them has not P
pub all_no : (P : ℕ → Type 0) {n i : ℕ} → i < n → (P i → ⊥) → Tells ((k : ℕ) → k < n → P k) false
all_no P {i = i} h bad = record { told = λ all. bad (all i h) }

-- yes to all numbers below n: every number below i has P, and n is at most i
pub all_yes : (P : ℕ → Type 0) {n i : ℕ} → n ≤ i → ((k : ℕ) → k < i → P k) → Tells ((k : ℕ) → k < n → P k) true
all_yes P h all = record { told = λ k l. all k (omega arith) }

-- a test that two numbers differ tells so
pub differ_tells : (m n : ℕ) → Tells (m ≡ n → ⊥) (not (eqb m n))
differ_tells m n = by_test (eqb m n) refl
  where
    by_test : (b : Bool) → eqb m n ≡ b → Tells (m ≡ n → ⊥) (not b)
    by_test true e = record { told = λ ne. ne (eqb-true m n e) }
    by_test false e = record { told = eqb-false m n e }

-- Laws of the sum in which a barred term bars.
-- Assumes nothing.
use mathlib.Core.Path.{◌≡◌, ◌∙◌}
use Prim.Native.Nat.{ℕ, ◌+◌, ◌≤◌, ◌<◌}
use native.Mathlib.Omega.{arith}
use borrow.Author.Tests.{eq-eqb, ne_eqb}
use Rattle.parsimony.specs.Barred.{barred, plus}
use Rattle.parsimony.proofs.Order.{by_eq, pick_true, pick_false}

-- a sum with a barred first term is barred
pub plus_left : (a b : ℕ) → a ≡ barred → plus a b ≡ barred
unfolding plus
plus_left a b h = pick_true barred _ (eq-eqb a barred h)

-- a sum with a barred second term is barred
pub plus_right : (a b : ℕ) → b ≡ barred → plus a b ≡ barred
unfolding plus
plus_right a b h =
    by_eq a barred (plus_left a b)
    (λ n. pick_false barred _ (ne_eqb a barred n)
    ∙ pick_true barred (a + b) (eq-eqb b barred h))

-- a sum of two terms that are not barred is their sum
pub plus_open : (a b : ℕ) → (a ≡ barred → ⊥) → (b ≡ barred → ⊥) → plus a b ≡ a + b
unfolding plus
plus_open a b n m =
    pick_false barred _ (ne_eqb a barred n)
    ∙ pick_false barred (a + b) (ne_eqb b barred m)

-- it is never more than the plain sum
pub plus_le : (a b : ℕ) → plus a b ≤ a + b
plus_le a b =
    by_eq a barred (λ h. let e = plus_left a b h in omega arith)
    (λ n. by_eq b barred (λ h. let e = plus_right a b h in omega arith)
    (λ m. let e = plus_open a b n m in omega arith))

-- a sum below barred is the plain sum
pub plus_below : (a b : ℕ) → plus a b < barred → plus a b ≡ a + b
plus_below a b h =
    by_eq a barred (λ k. absurd (let e = plus_left a b k in omega arith))
    (λ n. by_eq b barred (λ k. absurd (let e = plus_right a b k in omega arith)) (plus_open a b n))

-- and a plain sum below barred is the sum
pub below_plus : (a b : ℕ) → a + b < barred → plus a b ≡ a + b
below_plus a b h = plus_open a b (λ k. omega arith) (λ k. omega arith)

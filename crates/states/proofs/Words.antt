-- What a shift and a mask of a number say of the states in it.
-- Assumes nothing.
use mathlib.Core.Bool.{Bool, true, false}
use mathlib.Core.Path.{◌≡◌, refl, ap, sym, ◌∙◌, subst}
use Prim.Native.Nat.{ℕ, ◌*◌, ◌/◌, ◌%◌, ◌^◌, ◌<◌}
use native.Mathlib.Nat.{mod-eq_of_lt, one-mul}
use borrow.Author.Tests.{eqb-true, eqb-false}
use lib.Bits.{bit_and, and_mask}
use lib.Dec.{eqb}
use lib.Pow.{pow-lt}
use Rattle.parsimony.specs.StateSet.{Member, bit, one}
use Rattle.parsimony.specs.Tells.{Tells}

-- a test on a number tells whether the number is that one
pub eqb_tells : (m n : ℕ) → Tells (m ≡ n) (eqb m n)
eqb_tells m n = by_test (eqb m n) refl
  where
    by_test : (b : Bool) → eqb m n ≡ b → Tells (m ≡ n) b
    by_test true e = record { told = eqb-true m n e }
    by_test false e = record { told = eqb-false m n e }

-- the lowest bit after a shift by x tells whether state x is in the set
pub shifted_tells : (w x : ℕ) → Tells (Member w x) (eqb (bit_and (w / 2 ^ x) 1) 1)
unfolding bit
shifted_tells w x = subst (λ k. Tells (bit w x ≡ 1) (eqb k 1)) (sym (and_mask (w / 2 ^ x) 1)) (eqb_tells (bit w x) 1)

-- a one shifted by x within the width k is a power of two,
pub shifted_power : (k x : ℕ) → x < k → 1 * 2 ^ x % 2 ^ k ≡ 2 ^ x
shifted_power k x h = ap (λ m. m % 2 ^ k) (one-mul (2 ^ x)) ∙ mod-eq_of_lt (pow-lt h)

-- and the set of state x
pub shifted_one : (k x : ℕ) → x < k → 1 * 2 ^ x % 2 ^ k ≡ one x
unfolding one
shifted_one k x h = shifted_power k x h

-- A test of every number below a bound, computed once.
-- Assumes nothing.
use mathlib.Core.Bool.{Bool, true, false}
use mathlib.Core.Path.{◌≡◌, refl}
use Prim.Native.Nat.{ℕ, zero, suc, ◌<◌}
use native.Mathlib.Nat.{not-suc-le-zero}
use native.Mathlib.Omega.{arith}
use Rattle.parsimony.proofs.Order.{by_eq}
use Rattle.parsimony.specs.Test.{both}

-- the test f holds of every number below n
unfoldable pub all : (ℕ → Bool) → ℕ → Bool
unfolding both
all f zero = true
all f (suc n) = both (f n) (all f n)

both_left : (a b : Bool) → both a b ≡ true → a ≡ true
unfolding both
both_left true b e = refl
both_left false b e = e

both_right : (a b : Bool) → both a b ≡ true → b ≡ true
unfolding both
both_right true b e = e
both_right false true e = refl
both_right false false e = e

-- so it holds of each
pub all_below : (f : ℕ → Bool) (n : ℕ) → all f n ≡ true → (k : ℕ) → k < n → f k ≡ true
unfolding all
all_below f zero e k h = absurd (not-suc-le-zero h)
all_below f (suc n) e k h =
    by_eq k n (λ same. rw same (both_left (f n) (all f n) e))
    (λ other. all_below f n (both_right (f n) (all f n) e) k (omega arith))

-- Picking by a test, and tests that go over all numbers below a bound.
-- Assumes nothing.
use Rattle.std.specs.Prelude.{Bool, true, false, ℕ, zero, suc, eqb}

-- a where the test holds, else z
unfoldable pub pick {ℓ} : {A : Type ℓ} → Bool → A → A → A
pick true a z = a
pick false a z = z

-- both tests hold
unfoldable pub both : Bool → Bool → Bool
both true b = b
both false b = false

-- the test f holds of some number below n
unfoldable pub some : (ℕ → Bool) → ℕ → Bool
unfolding pick
some f zero = false
some f (suc n) = pick (f n) true (some f n)

-- m where a is u, else 0
unfoldable pub at : ℕ → ℕ → ℕ → ℕ
unfolding pick
at u m a = pick (eqb u a) m 0

-- The least value of a function over the numbers below a bound, and where it is reached.
-- Assumes nothing.
use Rattle.std.specs.Prelude.{ℕ, zero, suc, ◌≤◌, ◌<◌, ltb}
use Rattle.parsimony.specs.Test.{pick}

-- y is below s, and f is nowhere below s smaller than at y
pub record Least (f : ℕ → ℕ) (s y : ℕ) : Type 0 where
  pub within : y < s
  pub below : (z : ℕ) → z < s → f y ≤ f z

-- y is the lowest number at which f is least below s
pub record LowestLeast (f : ℕ → ℕ) (s y : ℕ) : Type 0 where
  pub least : Least f s y
  pub first : (z : ℕ) → z < y → f y < f z

-- the lowest number below s at which f is least
unfoldable pub low : (ℕ → ℕ) → ℕ → ℕ
unfolding pick
low f zero = 0
low f (suc n) = let m = low f n in pick (ltb (f n) (f m)) n m

-- the least value of f below s
unfoldable pub least : (ℕ → ℕ) → ℕ → ℕ
unfolding low
least f s = f (low f s)

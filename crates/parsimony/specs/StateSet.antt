-- Sets of states as numbers: bit x of the number stands for state x.
-- Assumes nothing.
use Rattle.std.specs.Prelude.{Bool, ◌≡◌, ℕ, zero, suc, ◌+◌, ◌/◌, ◌%◌, ◌^◌, ◌<◌, eqb}
use Rattle.std.specs.Int.Bits.{bit_and, bit_or}
use Rattle.parsimony.specs.Sum.{sum}
use Rattle.parsimony.specs.Test.{pick}

-- bit x of the number w: 1 or 0
unfoldable pub bit : ℕ → ℕ → ℕ
bit w x = w / 2 ^ x % 2

-- state x is in the set w
abbrev pub Member : ℕ → ℕ → Type 0
Member w x = bit w x ≡ 1

-- the test that state x is in the set w
unfoldable pub holds : ℕ → ℕ → Bool
unfolding bit
holds w x = eqb (bit w x) 1

-- the set of state x alone
unfoldable pub one : ℕ → ℕ
one x = 2 ^ x

-- the states in v, in w or in both
abbrev pub union : ℕ → ℕ → ℕ
union v w = bit_or v w

-- the states in both v and w
abbrev pub common : ℕ → ℕ → ℕ
common v w = bit_and v w

-- how many of the states 0 to s-1 are in the set w
unfoldable pub size : ℕ → ℕ → ℕ
unfolding sum bit
size s w = sum (bit w) s

-- x is the lowest state in the set w
pub record Lowest (w x : ℕ) : Type 0 where
  pub is_in : Member w x
  pub first : (y : ℕ) → y < x → Member w y → ⊥

-- the set of the states below s of which the test f holds
unfoldable pub gather : (ℕ → Bool) → ℕ → ℕ
unfolding pick
gather f zero = 0
gather f (suc n) = gather f n + pick (f n) (2 ^ n) 0

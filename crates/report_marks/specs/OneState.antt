-- The nodes whose set has one state.
-- Assumes nothing.
use Rattle.std.specs.Prelude.{ℕ}
use Rattle.parsimony.specs.StateSet.{size}
use Rattle.parsimony.specs.Sum.{sum}
use Rattle.parsimony.specs.Test.{at}

-- 1 where the set w has one of the states below s; else 0
unfoldable pub single : ℕ → ℕ → ℕ
unfolding size at
single s w = at 1 1 (size s w)

-- how many of the nodes 0 to n-1, whose sets S gives, have a set of one state
unfoldable pub one_states : ℕ → (ℕ → ℕ) → ℕ → ℕ
unfolding single sum
one_states s S n = sum (λ v. single s (S v)) n

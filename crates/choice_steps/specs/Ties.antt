-- Ties: the states that reach the least, in a row, and in a lane under the states of a parent's set.
-- Assumes nothing.
use Rattle.std.specs.Prelude.{ℕ, eqb}
use Rattle.parsimony.specs.Least.{least}
use Rattle.parsimony.specs.StateSet.{holds, gather}
use Rattle.parsimony.specs.Test.{both, some}
use Rattle.row_step.specs.Lane.{lane}

-- the states below n at which f is the least of its first s values
unfoldable pub least_below : (ℕ → ℕ) → ℕ → ℕ → ℕ
unfolding least gather
least_below f s n = gather (λ y. eqb (f y) (least f s)) n

-- all of them
abbrev pub least_set : (ℕ → ℕ) → ℕ → ℕ
least_set f s = least_below f s s

-- the states of a child that reach the least under some state below n of the parent's set w
unfoldable pub reached_under : (ℕ → ℕ → ℕ) → (ℕ → ℕ) → ℕ → ℕ → ℕ → ℕ
unfolding least gather both some holds
reached_under cost entry s w n =
    gather (λ y. some (λ x. both (holds w x) (eqb (lane (cost x) entry y) (least (lane (cost x) entry) s))) n) s

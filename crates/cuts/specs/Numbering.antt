-- Numbering anew: of the numbers 0, 1, .. some are kept; they keep their order and are renumbered from 0.
-- A number u is kept where keep u is 1, and not where it is 0.
-- Assumes nothing.
use Rattle.std.specs.Prelude.{ℕ, zero, suc, eqb}
use Rattle.parsimony.specs.Sum.{sum}
use Rattle.parsimony.specs.Test.{both, pick}

-- the new number of u: how many below it are kept
unfoldable pub renumber : (ℕ → ℕ) → ℕ → ℕ
unfolding sum
renumber keep u = sum keep u

-- the number below n that is kept and has the new number i
unfoldable pub original : (ℕ → ℕ) → ℕ → ℕ → ℕ
unfolding pick both renumber
original keep zero i = 0
original keep (suc n) i = pick (both (eqb (keep n) 1) (eqb (renumber keep n) i)) n (original keep n i)

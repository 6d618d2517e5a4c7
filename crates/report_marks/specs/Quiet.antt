-- The quiet mark of a column.
-- Assumes nothing.
use Rattle.std.specs.Prelude.{List, [], ◌∷◌, ℕ, ◌+◌, ltb}
use Rattle.parsimony.specs.StateSet.{one}
use Rattle.parsimony.specs.Sum.{sum}
use Rattle.parsimony.specs.Test.{pick, at}

-- how many of the cells are the set w
unfoldable pub tally : ℕ → List ℕ → ℕ
unfolding at
tally w [] = 0
tally w (cell ∷ more) = at w 1 cell + tally w more

-- 1 where base x occurs at two or more tips as plain x, which is the set of x alone; else 0
unfoldable pub often : List ℕ → ℕ → ℕ
unfolding tally one pick
often cells x = pick (ltb (tally (one x) cells) 2) 0 1

-- 1 where fewer than two of the four bases each occur at two or more tips as a plain A, C, G or T; else 0
unfoldable pub quiet_mark : List ℕ → ℕ
unfolding often sum pick
quiet_mark cells = pick (ltb (sum (often cells) 4) 2) 1 0

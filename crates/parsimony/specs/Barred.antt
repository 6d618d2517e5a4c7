-- The barred entry, and the sum in which a barred term bars.
-- Assumes nothing.
use Rattle.std.specs.Prelude.{ℕ, ◌+◌, eqb}
use Rattle.parsimony.specs.Test.{pick}

-- the entry that stands for "not allowed"
abbrev pub barred : ℕ
barred = 4294967295

-- a + b, but barred where a or b is
unfoldable pub plus : ℕ → ℕ → ℕ
unfolding pick
plus a b = pick (eqb a barred) barred (pick (eqb b barred) barred (a + b))

-- The paper's worked examples hold: one statement over the whole table, by computation.
-- Assumes nothing.
use mathlib.Core.Bool.{true}
use mathlib.Core.Path.{◌≡◌, refl}
use Rattle.parsimony.specs.Examples.{examples, all_hold}

-- every claim of every example holds
pub examples_hold : all_hold examples ≡ true
unfolding all_hold
examples_hold = refl

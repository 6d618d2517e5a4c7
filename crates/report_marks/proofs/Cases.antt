-- Columns that are quiet, and one that is not, by computation.
-- Assumes nothing.
use mathlib.Core.List.{[], ◌∷◌}
use mathlib.Core.Path.{◌≡◌, refl}
use Rattle.report_marks.specs.Quiet.{quiet_mark}

-- C, C, T, Y: what Y stands for counts for no base
pub quiet_codes : quiet_mark (2 ∷ 2 ∷ 8 ∷ 10 ∷ []) ≡ 1
unfolding quiet_mark
quiet_codes = refl

-- C, C, T, T
pub quiet_two_bases_twice : quiet_mark (2 ∷ 8 ∷ 2 ∷ 8 ∷ []) ≡ 0
unfolding quiet_mark
quiet_two_bases_twice = refl

-- one base at every tip
pub quiet_one_base : quiet_mark (8 ∷ 8 ∷ 8 ∷ 8 ∷ []) ≡ 1
unfolding quiet_mark
quiet_one_base = refl

-- Laws of ties: the rule in use is a tie rule, it takes the tie that is to be taken, and there is one such only.
-- Assumes nothing.
use mathlib.Core.Path.{◌≡◌, refl, sym, subst}
use Prim.Native.Nat.{ℕ, ◌<◌}
use Rattle.parsimony.specs.Least.{low}
use Rattle.parsimony.specs.Tie.{TieRule, lowest, rule_in_use, TakesTie}
use Rattle.parsimony.proofs.LeastLaws.{low_least, low_same, low_lowest, lowest_least_unique}

-- lowest is a tie rule
pub lowest_rule : TieRule lowest
unfolding lowest
lowest_rule = record { ties = λ s x f h. low_least f s h; same = λ s x f g h. low_same f g s h }

-- and is the one in use
pub in_use : TieRule rule_in_use
unfolding rule_in_use
in_use = lowest_rule

pub in_use_low : (s x : ℕ) (f : ℕ → ℕ) → rule_in_use s x f ≡ low f s
unfolding rule_in_use lowest
in_use_low s x f = refl

-- it takes the tie that is to be taken
pub in_use_takes : (f : ℕ → ℕ) (s x : ℕ) → 0 < s → TakesTie f s x (rule_in_use s x f)
in_use_takes f s x h =
    subst (TakesTie f s x) (sym (in_use_low s x f)) (record { taken = low_lowest f s h })

-- and no other is
pub takes_unique : (f : ℕ → ℕ) (s x y z : ℕ) → TakesTie f s x y → TakesTie f s x z → y ≡ z
takes_unique f s x y z hy hz = lowest_least_unique f s y z hy.taken hz.taken

-- `all_used` meets its contract. The loop's invariant: fewest is the lowest mark of the numbers looked at.
-- Assumes nothing.
use Rattle.std.proofs.Common.{get_or}
use Rattle.parsimony.proofs.Extremes.{LowestSoFar}
use Rattle.tree_uses.proofs.all_used.Given as goal

abbrev pub invariant-loop-uses : goal.invariant-loop-uses
invariant-loop-uses l = LowestSoFar (λ w. get_or l.uses-items w 0) 1 l.fewest l.uses-index

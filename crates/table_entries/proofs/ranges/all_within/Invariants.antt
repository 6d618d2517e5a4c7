-- `all_within` meets its contract. The loop's invariant: lowest and highest are those of the numbers looked at.
-- Assumes nothing.
use Rattle.std.proofs.Common.{get_or}
use Rattle.parsimony.proofs.Extremes.{LowestSoFar, HighestSoFar}
use Rattle.table_entries.proofs.ranges.all_within.Given as goal

abbrev pub invariant-loop-e : goal.invariant-loop-e
invariant-loop-e l = LowestSoFar (λ k. get_or l.list k 0) l.least l.lowest l.e-index
    × HighestSoFar (λ k. get_or l.list k 0) l.most l.highest l.e-index

-- `one_states` meets its contract: the sets up to this one are counted.
-- Assumes nothing.
use Rattle.std.proofs.Common.{◌≡◌, ◌==◌, take}
use Rattle.std.specs.List.{count_by}
use Rattle.parsimony.specs.Limits.{cell_bits}
use Rattle.parsimony.specs.StateSet.{size}
use Rattle.report_marks.proofs.ones.one_states.Given as goal

abbrev pub invariant-loop-set : goal.invariant-loop-set
invariant-loop-set l = l.count ≡ count_by (λ set. size cell_bits set == 1) (take l.set-index l.sets)

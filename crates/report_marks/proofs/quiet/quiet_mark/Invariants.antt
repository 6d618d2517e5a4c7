-- `quiet_mark` meets its contract: the bases up to this one that occur often are counted.
-- Assumes nothing.
use Rattle.std.proofs.Common.{◌≡◌, leb, take}
use Rattle.std.specs.List.{count_by}
use Rattle.report_marks.specs.Quiet.{tally}
use Rattle.report_marks.proofs.quiet.quiet_mark.Given as goal

abbrev pub invariant-loop-base : goal.invariant-loop-base
invariant-loop-base l = l.bases ≡ count_by (λ base. leb 2 (tally base l.cells)) (take l.base-index l.base-items)

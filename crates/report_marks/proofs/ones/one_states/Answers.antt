-- `one_states` meets its contract: at the end all sets are counted.
-- Assumes nothing.
use Rattle.parsimony.specs.Limits.{cell_bits}
use Rattle.report_marks.proofs.OneStateLaws.{ones_all}
use Rattle.report_marks.proofs.ones.one_states.Goals as goal

pub returns : goal.returns
returns c = ones_all cell_bits c.args.sets.now c.loop-set-test.false c.loop-set.invariant

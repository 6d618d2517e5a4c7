-- `pass` of sets meets its contract: it is the set step.
-- Assumes nothing.
use Rattle.choice_steps.specs.Marks.{settled}
use Rattle.walk_down.proofs.marks.CellMark.pass.Goals as goal

pub returns : goal.returns
unfolding settled
returns c = c.child_set.ensures

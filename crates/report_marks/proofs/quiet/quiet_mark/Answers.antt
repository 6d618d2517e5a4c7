-- `quiet_mark` meets its contract: at the end all bases are counted.
-- Assumes nothing.
use Rattle.std.proofs.Common.{◌∙◌, refl}
use Rattle.report_marks.proofs.QuietSteps.{quiet_is}
use Rattle.report_marks.proofs.quiet.quiet_mark.Goals as goal

pub returns : goal.returns
returns c =
    c.from.ensures ∙ quiet_is c.args.cells.now refl c.loop-base-test.false c.loop-base.invariant

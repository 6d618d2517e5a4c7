-- `put_word` meets its contract.
-- Assumes nothing.
use Rattle.report_lines.proofs.LineSteps.{puts_word}
use Rattle.report_lines.proofs.frame.put_word.Goals as goal

pub returns : goal.returns
returns c = puts_word _ _ _ _ _ c.text.ensures c.number.ensures

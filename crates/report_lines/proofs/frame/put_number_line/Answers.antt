-- `put_number_line` meets its contract: its parts are put one after the other.
-- Assumes nothing.
use Rattle.std.proofs.Common.{rules, subst}
use Rattle.report_text.specs.Starts.{StartsWith}
use Rattle.report_lines.specs.Frame.{number_line}
use Rattle.report_lines.proofs.LineSteps.{starts_over, puts_number_line}
use Rattle.report_lines.proofs.frame.put_number_line.Goals as goal

pub returns : goal.returns
returns c =
    subst (λ line. StartsWith (number_line c.args.word.now c.args.n) c.args.line.now line c.byte.new.self.len)
    (search rules)
    (starts_over _ _ _ _ c.over-text.ensures.text.0 c.over-text.ensures.text.1
    (puts_number_line _ _ _ _ _ c.put_word.ensures c.byte.ensures))

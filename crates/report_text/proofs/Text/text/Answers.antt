-- `text` meets its contract: the text stands in its part of the room.
-- Assumes nothing.
use Rattle.std.proofs.Common.{rules, refl, arith}
use Rattle.report_text.proofs.PutLaws.{puts_part}
use Rattle.report_text.proofs.Text.text.Goals as goal

pub returns : goal.returns
returns c = puts_part _ _ _ _ _ c.requires (omega arith) (search rules) refl refl refl

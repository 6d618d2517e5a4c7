-- `byte` meets its contract.
-- Assumes nothing.
use Rattle.std.proofs.Common.{refl}
use Rattle.report_text.proofs.PutLaws.{puts_byte}
use Rattle.report_text.proofs.Text.byte.Goals as goal

pub returns : goal.returns
returns c = puts_byte _ _ _ c.requires refl refl refl

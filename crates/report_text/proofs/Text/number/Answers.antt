-- `number` meets its contract: the digits stand at the start of the room.
-- Assumes nothing.
use Rattle.std.proofs.Common.{refl}
use Rattle.report_text.proofs.PutLaws.{puts_room}
use Rattle.report_text.proofs.Text.number.Goals as goal

pub returns : goal.returns
returns c = puts_room _ _ _ _ _ _ c.requires refl c.put_digits.ensures refl refl refl

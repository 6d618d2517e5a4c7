-- `mapped` meets its contract: what the function makes stands in its part of the room.
-- Assumes nothing.
use Rattle.std.proofs.Common.{rules, refl}
use Rattle.report_text.proofs.PutLaws.{puts_part}
use Rattle.report_text.proofs.Text.mapped.Goals as goal

pub returns : goal.returns
returns g c =
    (_, c.map_bytes.ensures, puts_part _ _ _ _ _ (search rules) (search rules) refl refl (search rules) refl)

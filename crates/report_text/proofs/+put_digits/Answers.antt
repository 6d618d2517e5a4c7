-- `put_digits` meets its contract.
-- Assumes nothing.
use Rattle.std.proofs.Common.{subst, sym}
use Rattle.std.specs.Prelude.{set}
use Rattle.report_text.specs.Starts.{StartsWith}
use Rattle.report_text.specs.Decimal.{decimal}
use Rattle.report_text.proofs.NumberSteps.{digits_last}
use Rattle.report_text.proofs.+put_digits.Goals as goal

pub returns-then-n-lt10 : goal.returns-then-n-lt10
returns-then-n-lt10 t c =
    subst (λ byte. StartsWith (decimal c.args.n) c.args.room.now (set c.args.room.now 0 byte) 1) (sym c.digit.ensures)
    (digits_last c.args.n c.args.room.now c.if-n-lt10.true c.requires)

-- `put_digits` ends: each call is on the tens of the number.
-- Assumes nothing.
use Rattle.report_text.proofs.+put_digits.Given as goal

abbrev pub decreases-put_digits : goal.decreases-put_digits
decreases-put_digits l = l.n

-- Numbers in digits, by computation.
-- Assumes nothing.
use mathlib.Core.Path.{◌≡◌, refl}
use Rattle.sheet_lines.specs.Bytes.{bytes}
use Rattle.report_text.specs.Decimal.{decimal, decimal_value}

-- nought has one digit
pub decimal_0 : decimal 0 ≡ bytes "0"
unfolding decimal bytes
decimal_0 = refl

pub decimal_9 : decimal 9 ≡ bytes "9"
unfolding decimal bytes
decimal_9 = refl

pub decimal_10 : decimal 10 ≡ bytes "10"
unfolding decimal bytes
decimal_10 = refl

-- zeros inside and at the end stay
pub decimal_1000020 : decimal 1000020 ≡ bytes "1000020"
unfolding decimal bytes
decimal_1000020 = refl

pub decimal_65535 : decimal 65535 ≡ bytes "65535"
unfolding decimal bytes
decimal_65535 = refl

-- the largest total: 65,535 columns of 1,020,978
pub decimal_total : decimal 66909793230 ≡ bytes "66909793230"
unfolding decimal bytes
decimal_total = refl

pub value_1000020 : decimal_value (bytes "1000020") ≡ 1000020
unfolding decimal_value bytes
value_1000020 = refl

-- Numbers in decimal digits, as bytes: 48 for 0 to 57 for 9.
-- Assumes nothing.
use Rattle.std.specs.Prelude.{Bool, true, false, List, [], ◌∷◌, ◌++◌, ℕ, zero, suc, ◌+◌, ◌*◌, ◌-◌, ◌/◌, ◌%◌, ltb}

-- the digits of n, by the test that it has one only: its digit, or what its tens give and then its last digit
unfoldable pub digits_by : Bool → (ℕ → List ℕ) → ℕ → List ℕ
digits_by true tens n = (48 + n) ∷ []
digits_by false tens n = tens (n / 10) ++ ((48 + n % 10) ∷ [])

-- the digits of a number below k
unfoldable pub decimal_by : ℕ → ℕ → List ℕ
unfolding digits_by
decimal_by zero n = []
decimal_by (suc k) n = digits_by (ltb n 10) (decimal_by k) n

-- the decimal digits of n, the most significant first, without leading zeros; 0 has one digit
unfoldable pub decimal : ℕ → List ℕ
unfolding decimal_by
decimal n = decimal_by (suc n) n

-- the number whose digits are those of n and then these
unfoldable pub value_from : ℕ → List ℕ → ℕ
value_from n [] = n
value_from n (digit ∷ more) = value_from (n * 10 + (digit - 48)) more

-- the number that digits stand for
unfoldable pub decimal_value : List ℕ → ℕ
unfolding value_from
decimal_value digits = value_from 0 digits

-- Numbers: 0, or a digit 1 to 9 and all digits after it. So a number has no leading zero.
-- Assumes nothing.
use Rattle.std.specs.Prelude.{Option, Some, None, Bool, List, [], ◌∷◌, ℕ, ◌+◌, ◌-◌, ◌*◌, eqb, leb, drop}
use Rattle.sheet_lines.specs.Bytes.{within}
use Rattle.parsimony.specs.Test.{pick}

-- the test that a byte is a digit
unfoldable pub is_digit : ℕ → Bool
unfolding within
is_digit byte = within 48 57 byte

-- the number that a value and all digits that some bytes, counted from place i, begin with make
unfoldable pub digits_in : List ℕ → ℕ → ℕ → Option (ℕ × ℕ)
unfolding pick is_digit
digits_in [] value i = Some (value, i)
digits_in (byte ∷ more) value i =
    pick (is_digit byte) (digits_in more (value * 10 + (byte - 48)) (i + 1)) (Some (value, i))

-- a number that is at most most
unfoldable pub limit : ℕ → Option (ℕ × ℕ) → Option (ℕ × ℕ)
unfolding pick
limit most (Some (n, next)) = pick (leb n most) (Some (n, next)) None
limit most None = None

-- the same in a sheet, from a place on
unfoldable pub digits_of : ℕ → List ℕ → ℕ → ℕ → Option (ℕ × ℕ)
unfolding digits_in limit
digits_of most sheet value at = limit most (digits_in (drop at sheet) value at)

-- the number that some bytes, counted from place i, begin with
unfoldable pub number_in : List ℕ → ℕ → Option (ℕ × ℕ)
unfolding pick is_digit digits_in
number_in [] i = None
number_in (byte ∷ more) i =
    pick (eqb byte 48) (Some (0, i + 1)) (pick (is_digit byte) (digits_in more (byte - 48) (i + 1)) None)

-- the number at a place of the sheet, at most most
unfoldable pub number_at : ℕ → List ℕ → ℕ → Option (ℕ × ℕ)
unfolding limit number_in
number_at most sheet at = limit most (number_in (drop at sheet) at)

-- what follows from a number and the place after it; no number otherwise
unfoldable pub on_number {ℓ} : {A : Type ℓ} → Option (ℕ × ℕ) → A → (ℕ → ℕ → A) → A
on_number (Some (n, next)) none go = go n next
on_number None none go = none

-- the place after the byte stop, where some bytes begin with it, for a number n before it
unfoldable pub stop_in : ℕ → List ℕ → ℕ → ℕ → Option (ℕ × ℕ)
unfolding pick
stop_in stop [] n i = None
stop_in stop (byte ∷ more) n i = pick (eqb byte stop) (Some (n, i + 1)) None

-- the number at a place of the sheet, at most most, with the byte stop after it
unfoldable pub field_of : ℕ → ℕ → List ℕ → ℕ → Option (ℕ × ℕ)
unfolding number_at on_number stop_in
field_of most stop sheet at =
    on_number (number_at most sheet at) None (λ n next. stop_in stop (drop next sheet) n next)

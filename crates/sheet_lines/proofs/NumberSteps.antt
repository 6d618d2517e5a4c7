-- A number, digit by digit, and the byte after it.
-- Assumes nothing.
use mathlib.Core.Bool.{Bool, true, false}
use mathlib.Core.List.{List, [], ◌∷◌}
use mathlib.Core.Path.{◌≡◌, sym, ap, ◌∙◌}
use Prim.Native.Nat.{ℕ, ◌+◌, ◌-◌, ◌*◌, ◌<◌, ◌≤◌}
use native.Mathlib.Omega.{arith}
use borrow.Author.Tests.{eq-eqb, ne_eqb, le-leb, lt-leb}
use lib.ListN.{length, get_or, drop}
use Rattle.std.proofs.Common.{Option, Some, None}
use Rattle.sheet_lines.specs.Bytes.{within}
use Rattle.sheet_lines.specs.Number.{is_digit, digits_in, limit, digits_of, number_in, number_at, on_number, stop_in}
use Rattle.sheet_lines.specs.Number.{field_of}
use Rattle.parsimony.proofs.Order.{pick_true, pick_false}
use Rattle.parsimony.specs.Test.{pick}
use Rattle.sheet_lines.proofs.ByteLaws.{drop_below, drop_past}

limit_above : (most n next : ℕ) → most < n → None ≡ limit most (Some (n, next))
unfolding limit
limit_above most n next h = sym (pick_false _ _ (lt-leb _ _ h))

limit_within : (most n next : ℕ) → n ≤ most → Some (n, next) ≡ limit most (Some (n, next))
unfolding limit
limit_within most n next h = sym (pick_true _ _ (le-leb _ _ h))

-- a value past the limit stays past it
over_by : (most value i : ℕ) (next : Option (ℕ × ℕ)) (digit : Bool) → most < value → None ≡ limit most next
    → None ≡ limit most (pick digit next (Some (value, i)))
unfolding pick
over_by most value i next true h rest = rest
over_by most value i next false h rest = limit_above most value i h

over : (most : ℕ) (bytes : List ℕ) (value i : ℕ) → most < value → None ≡ limit most (digits_in bytes value i)
unfolding digits_in
over most [] value i h = limit_above most value i h
over most (byte ∷ more) value i h =
    over_by most value i _ (is_digit byte) h (over most more (value * 10 + (byte - 48)) (i + 1) (omega arith))

pub digits_over : (most : ℕ) (sheet : List ℕ) (value i : ℕ) → most < value → None ≡ digits_of most sheet value i
unfolding digits_of
digits_over most sheet value i h = over most (drop i sheet) value i h

-- a digit: the number goes on
pub digits_on : (most : ℕ) (sheet : List ℕ) (value i digit : ℕ) → i < length sheet
    → within 48 57 (get_or sheet i 0) ≡ true → digit ≡ get_or sheet i 0 - 48
    → digits_of most sheet (value * 10 + digit) (i + 1) ≡ digits_of most sheet value i
unfolding digits_of digits_in is_digit
digits_on most sheet value i digit h e d = rw (d, drop_below sheet i h) (ap (limit most) (sym (pick_true _ _ e)))

-- another byte: the number is over
pub digits_stop : (most : ℕ) (sheet : List ℕ) (value i : ℕ) → i < length sheet → within 48 57 (get_or sheet i 0) ≡ false
    → value ≤ most → Some (value, i) ≡ digits_of most sheet value i
unfolding digits_of digits_in is_digit
digits_stop most sheet value i h e l =
    rw (drop_below sheet i h) (limit_within most value i l ∙ ap (limit most) (sym (pick_false _ _ e)))

-- nothing left: the number is over
pub digits_end : (most : ℕ) (sheet : List ℕ) (value i : ℕ) → length sheet ≤ i → value ≤ most
    → Some (value, i) ≡ digits_of most sheet value i
unfolding digits_of digits_in
digits_end most sheet value i h l = rw (drop_past sheet i h) (limit_within most value i l)

pub number_past : (most : ℕ) (sheet : List ℕ) (i : ℕ) → length sheet ≤ i → None ≡ number_at most sheet i
unfolding number_at number_in limit
number_past most sheet i h = rw (drop_past sheet i h)

-- a zero is a number by itself
pub number_zero : (most : ℕ) (sheet : List ℕ) (i : ℕ) → i < length sheet → get_or sheet i 0 ≡ 48
    → Some (0, i + 1) ≡ number_at most sheet i
unfolding number_at number_in
number_zero most sheet i h e =
    rw (drop_below sheet i h)
    (limit_within most 0 (i + 1) (omega arith) ∙ ap (limit most) (sym (pick_true _ _ (eq-eqb _ _ e))))

pub number_none : (most : ℕ) (sheet : List ℕ) (i : ℕ) → i < length sheet → (get_or sheet i 0 ≡ 48 → ⊥)
    → within 48 57 (get_or sheet i 0) ≡ false → None ≡ number_at most sheet i
unfolding number_at number_in is_digit limit
number_none most sheet i h n e =
    rw (drop_below sheet i h) (ap (limit most) (sym (pick_false _ _ (ne_eqb _ _ n) ∙ pick_false _ _ e)))

-- another digit goes on with all digits after it
pub number_more : (most : ℕ) (sheet : List ℕ) (i digit : ℕ) → i < length sheet → (get_or sheet i 0 ≡ 48 → ⊥)
    → within 48 57 (get_or sheet i 0) ≡ true → digit ≡ get_or sheet i 0 - 48
    → digits_of most sheet digit (i + 1) ≡ number_at most sheet i
unfolding number_at number_in is_digit digits_of
number_more most sheet i digit h n e d =
    rw (d, drop_below sheet i h) (ap (limit most) (sym (pick_false _ _ (ne_eqb _ _ n) ∙ pick_true _ _ e)))

-- a field whose number is none
pub field_none : (most stop : ℕ) (sheet : List ℕ) (i : ℕ) → number_at most sheet i ≡ None
    → None ≡ field_of most stop sheet i
unfolding field_of on_number
field_none most stop sheet i e = rw e

-- a field whose number is n, with next after it
module _ (most stop : ℕ) (sheet : List ℕ) (i n next : ℕ) (read : number_at most sheet i ≡ Some (n, next)) where
  pub field_past : length sheet ≤ next → None ≡ field_of most stop sheet i
  unfolding field_of on_number stop_in
  field_past h = rw (read, drop_past sheet next h)

  pub field_other : next < length sheet → (get_or sheet next 0 ≡ stop → ⊥) → None ≡ field_of most stop sheet i
  unfolding field_of on_number stop_in
  field_other h e = rw (read, drop_below sheet next h) (sym (pick_false _ _ (ne_eqb _ _ e)))

  pub field_whole : next < length sheet → get_or sheet next 0 ≡ stop → Some (n, next + 1) ≡ field_of most stop sheet i
  unfolding field_of on_number stop_in
  field_whole h e = rw (read, drop_below sheet next h) (sym (pick_true _ _ (eq-eqb _ _ e)))

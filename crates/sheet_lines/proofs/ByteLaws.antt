-- A sheet from a place on, byte by byte; and ranges of bytes.
-- Assumes nothing.
use mathlib.Core.Bool.{Bool, true, false}
use mathlib.Core.List.{List, [], ◌∷◌}
use mathlib.Core.Path.{◌≡◌, refl, sym, ap, ◌∙◌}
use Prim.Native.Nat.{ℕ, ◌+◌, ◌-◌, ◌<◌, ◌≤◌}
use native.Mathlib.Numerals.{add-one}
use native.Mathlib.Omega.{arith}
use borrow.Author.Tests.{le-leb, lt-leb, leb-true}
use lib.Dec.{leb}
use lib.ListN.{length, get_or, take, drop, drop_of_length-le}
use lib.Seq.{drop-cons, slice-cons, length-slice, length-take-le}
use Rattle.std.specs.Prelude.{◌&&◌}
use Rattle.std.proofs.lemmas.List.{drop-take}
use Rattle.std.specs.Char.{is_ascii_digit}
use Rattle.std.specs.Int.{is_in_range}
use Rattle.std.specs.List.{list_all}
use Rattle.sheet_lines.specs.Bytes.{within, text_of, every}
use Rattle.parsimony.specs.Test.{both}

-- below the end: a byte, and the sheet from the next place on
pub drop_below : (sheet : List ℕ) (i : ℕ) → i < length sheet → drop i sheet ≡ get_or sheet i 0 ∷ drop (i + 1) sheet
drop_below sheet i h = rw (add-one, drop-cons sheet i 0)

-- at the end: nothing
pub drop_past : (sheet : List ℕ) (i : ℕ) → length sheet ≤ i → drop i sheet ≡ []
drop_past sheet i h = drop_of_length-le sheet h

-- two tests in one
pub both_parts : (a b : Bool) → both a b ≡ true → (a ≡ true) × (b ≡ true)
unfolding both
both_parts true b e = (refl, e)
both_parts false true e = (e, refl)
both_parts false false e = (e, e)

pub within_low : (least most byte : ℕ) → byte < least → false ≡ within least most byte
unfolding within both
within_low least most byte h = rw (lt-leb least byte h)

pub within_high : (least most byte : ℕ) → least ≤ byte → most < byte → false ≡ within least most byte
unfolding within both
within_high least most byte l h = rw (le-leb least byte l, lt-leb byte most h)

pub within_yes : (least most byte : ℕ) → least ≤ byte → byte ≤ most → true ≡ within least most byte
unfolding within both
within_yes least most byte l h = rw (le-leb least byte l, le-leb byte most h)

and_both : (a b : Bool) → (a && b) ≡ both a b
unfolding both
and_both true b = refl
and_both false b = refl

-- the library's tests of a range and of a digit
pub range_within : (least most byte : ℕ) → is_in_range least most byte ≡ within least most byte
unfolding within
range_within least most byte = and_both (leb least byte) (leb byte most)

pub digit_within : (byte : ℕ) → is_ascii_digit byte ≡ within 48 57 byte
digit_within byte = range_within 48 57 byte

-- the library's test of every byte
pub all_every : (f : ℕ → Bool) (bytes : List ℕ) → list_all f bytes ≡ every f bytes
unfolding every
all_every f [] = refl
all_every f (byte ∷ more) = ap (λ b. f byte && b) (all_every f more) ∙ and_both (f byte) (every f more)

-- what the test of a range says
pub within_told : (least most byte : ℕ) → within least most byte ≡ true → (least ≤ byte) × (byte ≤ most)
unfolding within
within_told least most byte e =
    let e₂ = both_parts (leb least byte) (leb byte most) e in
    (leb-true least byte e₂.0, leb-true byte most e₂.1)

-- a part of the sheet is the text between its places
pub text_slice : (sheet : List ℕ) (at end : ℕ) → at ≤ end → take (end - at) (drop at sheet) ≡ text_of sheet at end
unfolding text_of
text_slice sheet at end h =
    let e : at + (end - at) ≡ end = omega arith in
    sym (drop-take at (end - at) sheet) ∙ ap (λ n. drop at (take n sheet)) e

-- the text between two places, byte by byte
pub text_on : (sheet : List ℕ) (i end : ℕ) → i < end → end ≤ length sheet
    → text_of sheet i end ≡ get_or sheet i 0 ∷ text_of sheet (i + 1) end
unfolding text_of
text_on sheet i end h l = rw (add-one) (slice-cons i end sheet 0 h l)

pub text_end : (sheet : List ℕ) (i end : ℕ) → end ≤ i → end ≤ length sheet → text_of sheet i end ≡ []
unfolding text_of
text_end sheet i end h l = drop_of_length-le (take end sheet) {i = i} (rw (length-take-le end sheet l) h)

pub text_length : (sheet : List ℕ) (i end : ℕ) → end ≤ length sheet → length (text_of sheet i end) ≡ end - i
unfolding text_of
text_length sheet i end l = length-slice i end sheet l

module _ (f : ℕ → Bool) (sheet : List ℕ) (i end : ℕ) (l : end ≤ length sheet) where
  -- a byte of which the test holds: the rest of the text decides
  pub every_on : i < end → f (get_or sheet i 0) ≡ true → every f (text_of sheet (i + 1) end) ≡ every f (text_of sheet i end)
  unfolding every both
  every_on h e = rw (text_on sheet i end h l, e)

  -- a byte of which it does not
  pub every_off : i < end → f (get_or sheet i 0) ≡ false → false ≡ every f (text_of sheet i end)
  unfolding every both
  every_off h e = rw (text_on sheet i end h l, e)

  -- no byte is left
  pub every_end : end ≤ i → true ≡ every f (text_of sheet i end)
  unfolding every
  every_end h = rw (text_end sheet i end h l)

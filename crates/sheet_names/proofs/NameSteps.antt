-- A name and its line, part by part; two lines beside each other, byte by byte; and a name beside the earlier ones.
-- Assumes nothing.
use mathlib.Core.Bool.{Bool, true, false}
use mathlib.Core.List.{List, [], ◌∷◌}
use mathlib.Core.Path.{◌≡◌, refl, sym, ap, ◌∙◌}
use Prim.Native.Nat.{ℕ, ◌+◌, ◌-◌, ◌<◌, ◌≤◌}
use native.Mathlib.Omega.{arith}
use borrow.Author.Tests.{eq-eqb, ne_eqb}
use lib.Dec.{eqb}
use lib.ListN.{length, take, drop}
use Rattle.std.proofs.Common.{Some, None, not, ◌||◌, ◌⊎◌, ⊎_elim}
use Rattle.std.specs.Char.{is_ascii_alphanumeric}
use Rattle.std.specs.List.{list_any, list_all}
use Rattle.sheet_lines.proofs.ByteLaws.{within_low, within_high, within_yes, range_within, all_every, text_slice}
use Rattle.sheet_lines.proofs.EveryLaws.{no_test}
use Rattle.sheet_lines.proofs.LineLaws.{line_from}
use Rattle.sheet_lines.specs.Bytes.{within, text_of}
use Rattle.sheet_lines.specs.Count.{on_place}
use Rattle.sheet_lines.specs.Line.{line_end}
use Rattle.sheet_lines.specs.Section.{item, fault}
use Rattle.sheet_lines.specs.declared.Fault.TheVariants.{Sheet}
use Rattle.sheet_names.specs.Name.{either, is_name_byte, is_name, same_text, is_new}
use Rattle.sheet_names.specs.Names.{name_of}
use Rattle.parsimony.proofs.Order.{by_eq, pick_true, pick_false}
use Rattle.parsimony.specs.Test.{both, pick}

-- the library's test of a letter or a digit, by ranges
letters : (byte : ℕ)
    → is_ascii_alphanumeric byte ≡ ((within 48 57 byte || within 65 90 byte) || within 97 122 byte)
letters byte = λ i. (range_within 48 57 byte i || range_within 65 90 byte i) || range_within 97 122 byte i

first_three : (a b c d : Bool) → ((c || a) || b) ≡ true → true ≡ either a (either b (either c d))
unfolding either
first_three true b c d e = refl
first_three false true c d e = refl
first_three false false true d e = refl
first_three false false false d e = no_test e

last_three : (a b c d : Bool) → ((c || a) || b) ≡ false → d ≡ either a (either b (either c d))
unfolding either
last_three false false false d e = refl
last_three true b true d e = no_test (sym e)
last_three true b false d e = no_test (sym e)
last_three false b true d e = no_test (sym e)
last_three false true false d e = no_test (sym e)

or_either : (a b c : Bool) → (a || (b || (c || false))) ≡ either a (either b c)
unfolding either
or_either true b c = refl
or_either false true c = refl
or_either false false true = refl
or_either false false false = refl

eqb_back : (a b : ℕ) → eqb a b ≡ eqb b a
eqb_back a b =
    by_eq a b (λ same. eq-eqb a b same ∙ sym (eq-eqb b a (sym same)))
    (λ other. ne_eqb a b other ∙ sym (ne_eqb b a (λ e. other (sym e))))

-- the test of a byte of a name in the words of the library
pub name_byte_yes : (byte : ℕ) → is_ascii_alphanumeric byte ≡ true → true ≡ is_name_byte byte
unfolding is_name_byte
name_byte_yes byte e =
    first_three (within 65 90 byte) (within 97 122 byte) (within 48 57 byte) _ (sym (letters byte) ∙ e)

pub name_byte_no : (byte : ℕ) → is_ascii_alphanumeric byte ≡ false
    → list_any (λ b. eqb b byte) (95 ∷ 46 ∷ 45 ∷ []) ≡ is_name_byte byte
unfolding is_name_byte
name_byte_no byte e =
    or_either (eqb 95 byte) (eqb 46 byte) (eqb 45 byte)
    ∙ (λ i. either (eqb_back 95 byte i) (either (eqb_back 46 byte i) (eqb_back 45 byte i)))
    ∙ last_three (within 65 90 byte) (within 97 122 byte) (within 48 57 byte) _ (sym (letters byte) ∙ e)

-- a text of no byte, of more than 32, and of 1 to 32, whose bytes decide
pub name_short : (text : List ℕ) → length text ≡ 0 → false ≡ is_name text
unfolding is_name both
name_short text h = rw (← within_low 1 32 (length text) (omega arith))

pub name_long : (text : List ℕ) → 32 < length text → false ≡ is_name text
unfolding is_name both
name_long text h = rw (← within_high 1 32 (length text) (omega arith) h)

pub name_fits : (text : List ℕ) {r : Bool} → (length text ≡ 0 → ⊥) → length text ≤ 32 → r ≡ list_all is_name_byte text
    → r ≡ is_name text
unfolding is_name both
name_fits text h k e = rw (← within_yes 1 32 (length text) (omega arith) k) (e ∙ all_every is_name_byte text)

-- two lines, byte by byte
module _ {a b : ℕ} {left right one other : List ℕ} (l : left ≡ a ∷ one) (r : right ≡ b ∷ other) where
  -- the same byte, and no line end: the rest decides
  pub same_on : a ≡ b → (a ≡ 10 → ⊥) → same_text one other ≡ same_text left right
  unfolding same_text
  same_on e n = rw (l, r) (sym (pick_true _ _ (eq-eqb _ _ e) ∙ pick_false _ _ (ne_eqb _ _ n)))

  -- two line ends
  pub same_end : a ≡ b → a ≡ 10 → true ≡ same_text left right
  unfolding same_text
  same_end e n = rw (l, r) (sym (pick_true _ _ (eq-eqb _ _ e) ∙ pick_true _ _ (eq-eqb _ _ n)))

  -- two bytes
  pub same_other : (a ≡ b → ⊥) → false ≡ same_text left right
  unfolding same_text
  same_other n = rw (l, r) (sym (pick_false _ _ (ne_eqb _ _ n)))

cons_some : {a : ℕ} {l : List ℕ} → a ∷ l ≡ [] → ⊥
cons_some h = let z : ◌≡◌ {A = ℕ} 0 1 = cc in omega arith

-- one of the lines is over without an end
pub same_over : (one other : List ℕ) → (one ≡ []) ⊎ (other ≡ []) → false ≡ same_text one other
unfolding same_text
same_over [] other e = refl
same_over (a ∷ one) [] e = refl
same_over (a ∷ one) (b ∷ other) e = ⊎_elim (λ h. absurd (cons_some h)) (λ h. absurd (cons_some h)) e

not_or : (a b : Bool) {c : Bool} → not b ≡ c → not (a || b) ≡ pick a false c
unfolding pick
not_or true b e = refl
not_or false b e = e

-- a name is new where no earlier line is the same
new_any : (sheet earlier : List ℕ) (at : ℕ)
    → not (list_any (λ place. same_text (drop place sheet) (drop at sheet)) earlier) ≡ is_new sheet earlier at
unfolding is_new
new_any sheet [] at = refl
new_any sheet (place ∷ places) at = not_or (same_text (drop place sheet) (drop at sheet)) _ (new_any sheet places at)

-- the same of the answer to whether some earlier line is the same
pub new_by : (sheet earlier : List ℕ) (at : ℕ) {r b : Bool}
    → r ≡ list_any (λ place. same_text (drop place sheet) (drop at sheet)) earlier → r ≡ b
    → is_new sheet earlier at ≡ not b
new_by sheet earlier at e n = sym (new_any sheet earlier at) ∙ ap not (sym e ∙ n)

-- the same of the answer to whether a part of the sheet is a name
pub named_by : (sheet : List ℕ) (at end : ℕ) {r b : Bool} → line_end sheet at ≡ Some end
    → r ≡ is_name (take (end - at) (drop at sheet)) → r ≡ b → is_name (text_of sheet at end) ≡ b
named_by sheet at end l e n =
    ap is_name (sym (text_slice sheet at end (line_from sheet at end l))) ∙ sym e ∙ n

module _ (sheet earlier : List ℕ) (at line : ℕ) where
  -- no line
  pub name_no_line : line_end sheet at ≡ None → fault (Sheet line) ≡ name_of sheet earlier at line
  unfolding name_of on_place
  name_no_line e = rw e

  module _ (end : ℕ) (ends : line_end sheet at ≡ Some end) where
    -- no name
    pub name_none : is_name (text_of sheet at end) ≡ false → fault (Sheet line) ≡ name_of sheet earlier at line
    unfolding name_of on_place both
    name_none e = rw (ends, e)

    -- an earlier name
    pub name_old : is_name (text_of sheet at end) ≡ true → is_new sheet earlier at ≡ false
        → fault (Sheet line) ≡ name_of sheet earlier at line
    unfolding name_of on_place both
    name_old e f = rw (ends, e, f)

    -- a new name
    pub name_whole : is_name (text_of sheet at end) ≡ true → is_new sheet earlier at ≡ true
        → item at (end + 1) ≡ name_of sheet earlier at line
    unfolding name_of on_place both
    name_whole e f = rw (ends, e, f)

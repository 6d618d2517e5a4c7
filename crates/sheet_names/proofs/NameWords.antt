-- The tests of a name decide what is said of a name in words.
-- Assumes nothing.
use mathlib.Core.Bool.{Bool, true, false}
use mathlib.Core.List.{List}
use mathlib.Core.Logic.{◌⊎◌, inl, inr, ⊎_elim}
use mathlib.Core.Path.{◌≡◌, refl, sym, subst}
use Prim.Native.Nat.{ℕ, ◌-◌}
use native.Mathlib.Omega.{arith}
use borrow.Author.Tests.{eqb-true, eq-eqb}
use lib.Dec.{eqb}
use lib.ListN.{length, get_or}
use Rattle.sheet_lines.proofs.ByteLaws.{both_parts, within_told, within_yes, text_length}
use Rattle.sheet_lines.proofs.EveryLaws.{every_told, every_found}
use Rattle.sheet_lines.specs.Bytes.{within, text_of, every}
use Rattle.sheet_lines.specs.IsLine.{IsLine}
use Rattle.sheet_names.specs.IsName.{Between, NameByte, IsNameLine}
use Rattle.sheet_names.specs.Name.{either, is_name_byte, is_name}
use Rattle.parsimony.specs.Test.{both}

either_cases : (a b : Bool) → either a b ≡ true → (a ≡ true) ⊎ (b ≡ true)
unfolding either
either_cases true b e = inl refl
either_cases false b e = inr e

either_left : (a b : Bool) → a ≡ true → either a b ≡ true
unfolding either
either_left a b e = rw e

either_right : (a b : Bool) → b ≡ true → either a b ≡ true
unfolding either
either_right true b e = refl
either_right false b e = e

-- the test of a byte of a name says what it should
pub name_byte_told : (byte : ℕ) → is_name_byte byte ≡ true → NameByte byte
unfolding is_name_byte
name_byte_told byte e =
    ⊎_elim (λ h. inl (within_told 65 90 byte h))
    (λ e₂. inr (⊎_elim (λ h. inl (within_told 97 122 byte h))
    (λ e₃. inr (⊎_elim (λ h. inl (within_told 48 57 byte h))
    (λ e₄. inr (⊎_elim (λ h. inl (eqb-true byte 95 h))
    (λ e₅. inr (⊎_elim (λ h. inl (eqb-true byte 46 h)) (λ h. inr (eqb-true byte 45 h)) (either_cases _ _ e₅)))
    (either_cases _ _ e₄))) (either_cases _ _ e₃))) (either_cases _ _ e₂))) (either_cases _ _ e)

either_six : (a b c d e f : Bool)
    → (a ≡ true) ⊎ ((b ≡ true) ⊎ ((c ≡ true) ⊎ ((d ≡ true) ⊎ ((e ≡ true) ⊎ (f ≡ true)))))
    → either a (either b (either c (either d (either e f)))) ≡ true
either_six a b c d e f =
    one a _ (one b _ (one c _ (one d _ (one e f (λ h. h)))))
  where
    one : (a b : Bool) {B : Type 0} → (B → b ≡ true) → (a ≡ true) ⊎ B → either a b ≡ true
    one a b g h = ⊎_elim (λ yes₁. either_left a b yes₁) (λ more. either_right a b (g more)) h

also : {A B C D : Type 0} → (A → C) → (B → D) → A ⊎ B → C ⊎ D
also f g h = ⊎_elim (λ a. inl (f a)) (λ b. inr (g b)) h

range : (least most byte : ℕ) → Between least most byte → within least most byte ≡ true
range least most byte h = sym (within_yes least most byte h.0 h.1)

pub name_byte_found : (byte : ℕ) → NameByte byte → is_name_byte byte ≡ true
unfolding is_name_byte
name_byte_found byte name =
    either_six (within 65 90 byte) (within 97 122 byte) (within 48 57 byte) (eqb byte 95) (eqb byte 46) (eqb byte 45)
    (also (range 65 90 byte) (also (range 97 122 byte) (also (range 48 57 byte)
    (also (eq-eqb byte 95) (also (eq-eqb byte 46) (eq-eqb byte 45))))) name)

-- the test of a name says what it should of a line
pub name_line_told : (sheet : List ℕ) (at end : ℕ) → IsLine sheet at end → is_name (text_of sheet at end) ≡ true
    → IsNameLine sheet at end
unfolding is_name
name_line_told sheet at end line e =
    let inside = line.inside in
    let both = both_parts (within 1 32 (length (text_of sheet at end))) (every is_name_byte (text_of sheet at end)) e in
    let size = within_told 1 32 (length (text_of sheet at end)) both.0 in
    record {
      line = line;
      size = subst (Between 1 32) (text_length sheet at end (omega arith)) size;
      letters = λ i low high.
          name_byte_told (get_or sheet i 0) (every_told is_name_byte sheet end (omega arith) at both.1 i low high);
    }

pub name_line_found : (sheet : List ℕ) (at end : ℕ) → IsNameLine sheet at end → is_name (text_of sheet at end) ≡ true
unfolding is_name both
name_line_found sheet at end name =
    let inside = name.line.inside in
    rw (text_length sheet at end (omega arith), ← within_yes 1 32 (end - at) name.size.0 name.size.1)
    (every_found is_name_byte sheet end (omega arith) at
    (λ k low high. name_byte_found (get_or sheet k 0) (name.letters k low high)))

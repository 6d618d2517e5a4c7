-- The tests of two lines, and of a line beside earlier ones, decide what is said of them in words.
-- Assumes nothing.
use mathlib.Core.Bool.{Bool, true, false}
use mathlib.Core.List.{List, [], ◌∷◌}
use mathlib.Core.Path.{◌≡◌, refl, sym, subst, ◌∙◌}
use Prim.Native.Nat.{ℕ, zero, suc, ◌+◌, ◌-◌, ◌<◌, ◌≤◌}
use native.Mathlib.Nat.{add-zero}
use native.Mathlib.Omega.{arith}
use lib.ListN.{length, get_or, drop}
use Rattle.sheet_lines.proofs.ByteLaws.{drop_below}
use Rattle.sheet_lines.proofs.EveryLaws.{no_test}
use Rattle.sheet_lines.specs.IsLine.{IsLine}
use Rattle.sheet_names.specs.IsName.{SameLine}
use Rattle.sheet_names.specs.Name.{same_text, is_new}
use Rattle.parsimony.proofs.Order.{by_lt, by_eq}
use Rattle.parsimony.specs.Test.{pick}
use Rattle.sheet_names.proofs.NameSteps.{same_on, same_end, same_other}

-- a line without its first byte
shorter : (sheet : List ℕ) (a end : ℕ) → a < end → IsLine sheet a end → IsLine sheet (a + 1) end
shorter sheet a end h line =
    record {
      from = omega arith;
      inside = line.inside;
      stop = line.stop;
      plain = λ i low high. line.plain i (omega arith) high;
    }

-- the byte at a line's place is 10 just where the line is over
ended : (sheet : List ℕ) (a end : ℕ) → IsLine sheet a end → get_or sheet a 0 ≡ 10 → a ≡ end
ended sheet a end line e =
    by_eq a end (λ same. same)
    (λ other. let p = line.plain a (omega arith) (omega (arith, line.from)) in absurd (omega arith))

open_yet : (sheet : List ℕ) (a end : ℕ) → IsLine sheet a end → (get_or sheet a 0 ≡ 10 → ⊥) → a < end
open_yet sheet a end line n =
    by_eq a end (λ same. absurd (n (subst (λ i. get_or sheet i 0 ≡ 10) (sym same) line.stop)))
    (λ other. omega (arith, line.from))

joined : (sheet : List ℕ) (a end b last : ℕ) → a < end → b < last → get_or sheet a 0 ≡ get_or sheet b 0
    → SameLine sheet (a + 1) end (b + 1) last → SameLine sheet a end b last
joined sheet a end b last h l e same =
    record {
      size = omega (arith, same.size);
      bytes = λ k low. by_k k low;
    }
  where
    by_k : (k : ℕ) → k < end - a → get_or sheet (a + k) 0 ≡ get_or sheet (b + k) 0
    by_k zero low = rw (add-zero, add-zero) e
    by_k (suc k) low =
        let left : a + suc k ≡ a + 1 + k = omega arith in
        let right : b + suc k ≡ b + 1 + k = omega arith in
        rw (left, right) (same.bytes k (omega arith))

same_step : (sheet : List ℕ) (a end b last : ℕ) → IsLine sheet a end → IsLine sheet b last
    → same_text (drop a sheet) (drop b sheet) ≡ true
    → (a < end → b < last → same_text (drop (a + 1) sheet) (drop (b + 1) sheet) ≡ true
    → SameLine sheet (a + 1) end (b + 1) last)
    → SameLine sheet a end b last
same_step sheet a end b last one two e rest =
    by_eq (get_or sheet a 0) (get_or sheet b 0)
    (λ equal. by_eq (get_or sheet a 0) 10
    (λ ten.
    let left = ended sheet a end one ten in
    let right = ended sheet b last two (sym equal ∙ ten) in
    record { size = omega arith; bytes = λ k low. absurd (omega arith) })
    (λ other.
    let h = open_yet sheet a end one other in
    let l = open_yet sheet b last two (λ ten. other (equal ∙ ten)) in
    joined sheet a end b last h l equal
    (rest h l (same_on (drop_below sheet a inside₁) (drop_below sheet b inside₂) equal other ∙ e))))
    (λ unequal. no_test (same_other (drop_below sheet a inside₁) (drop_below sheet b inside₂) unequal ∙ e))
  where
    inside₁ : a < length sheet
    inside₁ = omega (arith, one.from, one.inside)

    inside₂ : b < length sheet
    inside₂ = omega (arith, two.from, two.inside)

same_by : (n : ℕ) (sheet : List ℕ) (a end b last : ℕ) → end ≤ a + n → IsLine sheet a end → IsLine sheet b last
    → same_text (drop a sheet) (drop b sheet) ≡ true → SameLine sheet a end b last
same_by zero sheet a end b last room one two e = same_step sheet a end b last one two e (λ h l f. absurd (omega arith))
same_by (suc n) sheet a end b last room one two e =
    same_step sheet a end b last one two e
    (λ h l f.
    same_by n sheet (a + 1) end (b + 1) last (omega arith) (shorter sheet a end h one) (shorter sheet b last l two) f)

-- the test of two lines says what it should
pub same_told : (sheet : List ℕ) (a end b last : ℕ) → IsLine sheet a end → IsLine sheet b last
    → same_text (drop a sheet) (drop b sheet) ≡ true → SameLine sheet a end b last
same_told sheet a end b last one two e = same_by end sheet a end b last (omega arith) one two e

rest_same : (sheet : List ℕ) (a end b last : ℕ) → SameLine sheet a end b last → SameLine sheet (a + 1) end (b + 1) last
rest_same sheet a end b last same =
    record {
      size = omega (arith, same.size);
      bytes = λ k low.
          let left : a + 1 + k ≡ a + (k + 1) = omega arith in
          let right : b + 1 + k ≡ b + (k + 1) = omega arith in
          rw (left, right) (same.bytes (k + 1) (omega arith));
    }

found_step : (sheet : List ℕ) (a end b last : ℕ) → IsLine sheet a end → IsLine sheet b last
    → SameLine sheet a end b last
    → (a < end → b < last → same_text (drop (a + 1) sheet) (drop (b + 1) sheet) ≡ true)
    → same_text (drop a sheet) (drop b sheet) ≡ true
found_step sheet a end b last one two same rest =
    by_lt a end
    (λ h.
    let l : b < last = omega (arith, same.size) in
    let first : get_or sheet a 0 ≡ get_or sheet b 0 = rw (add-zero, add-zero) at (same.bytes 0 (omega arith)) in
    let plain = one.plain a (omega arith) h in
    sym (same_on (drop_below sheet a inside₁) (drop_below sheet b inside₂) first (λ ten. omega arith)) ∙ rest h l)
    (λ h.
    let left : end ≡ a = omega (arith, one.from) in
    let right : last ≡ b = omega (arith, same.size, two.from) in
    let ten : get_or sheet a 0 ≡ 10 = subst (λ i. get_or sheet i 0 ≡ 10) left one.stop in
    let ten₂ : get_or sheet b 0 ≡ 10 = subst (λ i. get_or sheet i 0 ≡ 10) right two.stop in
    sym (same_end (drop_below sheet a inside₁) (drop_below sheet b inside₂) (ten ∙ sym ten₂) ten))
  where
    inside₁ : a < length sheet
    inside₁ = omega (arith, one.from, one.inside)

    inside₂ : b < length sheet
    inside₂ = omega (arith, two.from, two.inside)

found_by : (n : ℕ) (sheet : List ℕ) (a end b last : ℕ) → end ≤ a + n → IsLine sheet a end → IsLine sheet b last
    → SameLine sheet a end b last → same_text (drop a sheet) (drop b sheet) ≡ true
found_by zero sheet a end b last room one two same =
    found_step sheet a end b last one two same (λ h l. absurd (omega arith))
found_by (suc n) sheet a end b last room one two same =
    found_step sheet a end b last one two same
    (λ h l.
    found_by n sheet (a + 1) end (b + 1) last (omega arith) (shorter sheet a end h one) (shorter sheet b last l two)
    (rest_same sheet a end b last same))

pub same_found : (sheet : List ℕ) (a end b last : ℕ) → IsLine sheet a end → IsLine sheet b last
    → SameLine sheet a end b last → same_text (drop a sheet) (drop b sheet) ≡ true
same_found sheet a end b last one two same = found_by end sheet a end b last (omega arith) one two same

-- the test that a line is new says what it should of each earlier line
pub new_told : (sheet earlier : List ℕ) (at : ℕ) → is_new sheet earlier at ≡ true
    → (k : ℕ) → k < length earlier → same_text (drop (get_or earlier k 0) sheet) (drop at sheet) ≡ false
unfolding is_new
new_told sheet [] at e k h = absurd (omega arith)
new_told sheet (place ∷ places) at e k h =
    by_test (same_text (drop place sheet) (drop at sheet)) refl e (new_told sheet places at) k h
  where
    by_test : (b : Bool) → same_text (drop place sheet) (drop at sheet) ≡ b → pick b false (is_new sheet places at) ≡ true
        → (is_new sheet places at ≡ true → (k : ℕ) → k < length places
        → same_text (drop (get_or places k 0) sheet) (drop at sheet) ≡ false)
        → (k : ℕ) → k < length (place ∷ places)
        → same_text (drop (get_or (place ∷ places) k 0) sheet) (drop at sheet) ≡ false
    by_test true t f rest k h = no_test f
    by_test false t f rest zero h = t
    by_test false t f rest (suc k) h = rest f k (omega arith)

pub new_found : (sheet earlier : List ℕ) (at : ℕ)
    → ((k : ℕ) → k < length earlier → same_text (drop (get_or earlier k 0) sheet) (drop at sheet) ≡ false)
    → is_new sheet earlier at ≡ true
unfolding is_new
new_found sheet [] at all = refl
new_found sheet (place ∷ places) at all =
    rw (all 0 (omega arith)) (new_found sheet places at (λ k h. all (suc k) (omega arith)))

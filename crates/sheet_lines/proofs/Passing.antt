-- The reading of a section of which no item is kept.
-- Assumes nothing.
use mathlib.Core.List.{List, [], ◌∷◌, ◌++◌}
use mathlib.Core.Path.{◌≡◌, ap, ◌∙◌}
use Prim.Native.Nat.{ℕ, ◌+◌, ◌-◌, ◌<◌, ◌≤◌}
use native.Mathlib.Omega.{arith}
use Rattle.std.proofs.Common.{Result, Ok, Err}
use Rattle.sheet_lines.specs.Section.{Item, item, fault, section}
use Rattle.sheet_lines.specs.declared.Fault.{Fault}
use Rattle.sheet_lines.proofs.SectionSteps.{section_on, section_stop, section_end}

-- The reading of a section of t lines of which no item is kept: i lines are read.
pub record Passing {A : Type 0} (judge : List A → ℕ → ℕ → Item A) (t from first i at line : ℕ) : Type 0 where
  pub before : List A
  pub few : i ≤ t
  pub count : line ≡ first + i
  pub whole : section judge (t - i) at line before ≡ section judge t from first []

module _ {A : Type 0} {judge : List A → ℕ → ℕ → Item A} {t from first : ℕ} where
  module _ {i at line : ℕ} (passing : Passing judge t from first i at line) where
    -- an item is passed over, and the line after it is the next
    pub passing_on : (a : A) (next : ℕ) {after : ℕ} → after ≡ line + 1 → i < t
        → ((before : List A) → judge before at line ≡ item a next)
        → Passing judge t from first (i + 1) next after
    passing_on a next {after} n h e =
        let before = passing.before in
        record {
          before = before ++ a ∷ [];
          few = omega arith;
          count = omega (arith, n, passing.count);
          whole =
              rw n
              (section_on judge t i at line before a next h (e before) ∙ passing.whole);
        }

    -- a fault ends the reading
    pub passing_stop : (f : Fault) {answer : Result ℕ Fault} → answer ≡ Err f → i < t
        → ((before : List A) → judge before at line ≡ fault f)
        → answer ≡ (section judge t from first []).part
    passing_stop f said h e =
        let before = passing.before in
        said
        ∙ ap (λ g. g.part) (section_stop judge t i at line before f h (e before) ∙ passing.whole)

    -- all lines are read
    pub passing_end : t ≤ i → Ok at ≡ (section judge t from first []).part
    passing_end h =
        let before = passing.before in
        ap (λ g. g.part) (section_end judge t i at line before h ∙ passing.whole)

-- The reading of a section whose items go into a list on the way.
-- Assumes nothing.
use mathlib.Core.List.{List, []}
use mathlib.Core.Path.{◌≡◌, sym, ap, ◌∙◌}
use Prim.Native.Nat.{ℕ, ◌+◌, ◌-◌, ◌<◌, ◌≤◌}
use native.Mathlib.Numerals.{add-one}
use native.Mathlib.Omega.{arith}
use lib.ListN.{length, take, drop, set, length-set, take-append-drop}
use lib.Seq.{length-take-le, take-suc-set, drop-set-lt, drop-drop}
use Rattle.std.proofs.Common.{Result, Ok, Err}
use Rattle.sheet_lines.specs.Section.{Item, item, fault, GivesSection, section, wrote}
use Rattle.sheet_lines.specs.declared.Fault.{Fault}
use Rattle.sheet_lines.proofs.SectionSteps.{section_on, section_stop, section_end}

-- The reading of a section of t lines that fills a list: i lines are read, whose items stand in the list; the rest of
-- it is as it was at entry.
pub record Going {A : Type 0} (judge : List A → ℕ → ℕ → Item A) (t from first : ℕ) (entry : List A) (i at line : ℕ)
    (list : List A) : Type 0 where
  pub few : i ≤ t
  pub room : t ≤ length entry
  pub size : length list ≡ length entry
  pub count : line ≡ first + i
  pub rest : drop i list ≡ drop i entry
  pub whole : section judge (t - i) at line (take i list) ≡ section judge t from first []

filled : {A : Type 0} (i : ℕ) (list entry : List A) → i ≤ length list → drop i list ≡ drop i entry
    → list ≡ wrote (take i list) entry
unfolding wrote
filled i list entry h e = rw (length-take-le i list h, ← e) (sym (take-append-drop i list))

module _ {A : Type 0} {judge : List A → ℕ → ℕ → Item A} {t from first : ℕ} {entry : List A} where
  module _ {i at line : ℕ} {list : List A} (going : Going judge t from first entry i at line list) where
    -- as many items stand in the list as lines are read
    pub going_taken : i < t → length (take i list) ≡ i
    going_taken h =
        let size = going.size in
        let room = going.room in
        length-take-le i list (omega arith)

    -- an item goes into the list, and the line after it is the next
    pub going_on : (a : A) (next : ℕ) {after : ℕ} → after ≡ line + 1 → i < t → judge (take i list) at line ≡ item a next
        → Going judge t from first entry (i + 1) next after (set list i a)
    going_on a next {after} n h e =
        let size = going.size in
        let room = going.room in
        let low : i < length list = omega arith in
        record {
          few = omega arith;
          room = room;
          size = length-set list i a ∙ size;
          count = omega (arith, n, going.count);
          rest =
              rw (drop-set-lt (i + 1) list i a (omega arith), ← drop-drop 1 i list, ← drop-drop 1 i entry, going.rest);
          whole =
              rw (n, add-one, take-suc-set list i a low, ← add-one)
              (section_on judge t i at line (take i list) a next h e ∙ going.whole);
        }

    -- a fault ends the reading
    pub going_stop : (f : Fault) {answer : Result ℕ Fault} → answer ≡ Err f → i < t
        → judge (take i list) at line ≡ fault f
        → GivesSection (section judge t from first []) answer entry list
    going_stop f said h e =
        let size = going.size in
        let room = going.room in
        let s = section_stop judge t i at line (take i list) f h e ∙ going.whole in
        record {
          said = said ∙ ap (λ g. g.part) s;
          written =
              rw (← s) (filled i list entry (omega arith) going.rest);
        }

    -- all lines are read
    pub going_end : t ≤ i → GivesSection (section judge t from first []) (Ok at) entry list
    going_end h =
        let size = going.size in
        let room = going.room in
        let few = going.few in
        let s = section_end judge t i at line (take i list) h ∙ going.whole in
        record {
          said = ap (λ g. g.part) s;
          written =
              rw (← s) (filled i list entry (omega arith) going.rest);
        }

-- A section: lines that are judged one after the other, up to the first that is at fault.
-- Assumes nothing.
use Rattle.std.specs.Prelude.{Result, Ok, Err, List, [], ◌∷◌, ◌++◌, ◌≡◌, ℕ, zero, suc, ◌+◌, length, drop}
use Rattle.sheet_lines.specs.declared.Fault.{Fault}

-- what one line gives: an item and the place of the next line, or a fault
pub data Item (A : Type 0) : Type 0 where
  item : A → ℕ → Item A
  fault : Fault → Item A

-- a line whose item is its place
unfoldable pub placed : ℕ → Result ℕ Fault → Item ℕ
placed at (Ok next) = item at next
placed at (Err f) = fault f

-- what a section gives: the items of its lines up to the first fault, and the place to go on from or that fault
pub record Section (A : Type 0) : Type 0 where
  pub items : List A
  pub part : Result ℕ Fault

-- the section after a line with the items before it
unfoldable pub follow : {A : Type 0} → Item A → List A → (List A → ℕ → Section A) → Section A
follow (item a next) before go = go (before ++ a ∷ []) next
follow (fault f) before go = record { items = before; part = Err f }

-- The section of n lines from a place and a line number on, after the items of the lines before: each line is judged by
-- the items before it, its place and its number.
unfoldable pub section : {A : Type 0} → (List A → ℕ → ℕ → Item A) → ℕ → ℕ → ℕ → List A → Section A
unfolding follow
section judge zero at line before = record { items = before; part = Ok at }
section judge (suc n) at line before =
    follow (judge before at line) before (λ items next. section judge n next (line + 1) items)

-- a list that begins with the items, and is otherwise as it was at entry
unfoldable pub wrote : {A : Type 0} → List A → List A → List A
wrote items entry = items ++ drop (length items) entry

-- what a section's reader gives: the answer, and the list that it fills with the items
pub record GivesSection {A : Type 0} (given : Section A) (answer : Result ℕ Fault) (entry exit : List A) : Type 0 where
  pub said : answer ≡ given.part
  pub written : exit ≡ wrote given.items entry

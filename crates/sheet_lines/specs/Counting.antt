-- A section after its count line.
-- Assumes nothing.
use Rattle.std.specs.Prelude.{Result, Ok, Err, List, [], ◌≡◌, ℕ}
use Rattle.sheet_lines.specs.Section.{Section, wrote}
use Rattle.sheet_lines.specs.declared.Fault.{Fault}

-- what a count line and its section give: the items of the lines up to the first fault, and the count with the place to
-- go on from, or that fault
pub record Counting (A : Type 0) : Type 0 where
  pub items : List A
  pub count : Result (ℕ × ℕ) Fault

-- the count n with the place that its section ends at, or the section's fault
unfoldable pub with_count : ℕ → Result ℕ Fault → Result (ℕ × ℕ) Fault
with_count n (Ok next) = Ok (n, next)
with_count n (Err fault) = Err fault

-- what follows from a count and the place after it, or from a fault
unfoldable pub on_count {ℓ} : {A : Type ℓ} → Result (ℕ × ℕ) Fault → (Fault → A) → (ℕ → ℕ → A) → A
on_count (Ok (n, next)) bad go = go n next
on_count (Err fault) bad go = bad fault

-- what follows from the place to go on from, or from a fault
unfoldable pub on_part {ℓ} : {A : Type ℓ} → Result ℕ Fault → (Fault → A) → (ℕ → A) → A
on_part (Ok next) bad go = go next
on_part (Err fault) bad go = bad fault

-- the section of a count, which is read from the place after the count line on
unfoldable pub counting : {A : Type 0} → Result (ℕ × ℕ) Fault → (ℕ → ℕ → Section A) → Counting A
unfolding with_count
counting (Ok (n, next)) go = record { items = (go n next).items; count = with_count n (go n next).part }
counting (Err fault) go = record { items = []; count = Err fault }

-- what the reader of a count line and its section gives: the answer, and the list that it fills with the items
pub record GivesCount {A : Type 0} (given : Counting A) (answer : Result (ℕ × ℕ) Fault)
    (entry exit : List A) : Type 0 where
  pub said : answer ≡ given.count
  pub written : exit ≡ wrote given.items entry

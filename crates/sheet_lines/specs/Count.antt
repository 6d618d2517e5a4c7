-- Count lines: the word, one space, the digits, the line end, and nothing else.
-- Assumes nothing.
use Rattle.std.specs.Prelude.{Option, Some, None, Result, Ok, Err, List, ℕ, ltb}
use Rattle.sheet_lines.specs.Number.{field_of, on_number}
use Rattle.sheet_lines.specs.Word.{word_of}
use Rattle.sheet_lines.specs.declared.Fault.TheVariants.{Sheet}
use Rattle.parsimony.specs.Test.{pick}
use Rattle.sheet_lines.specs.declared.Fault.{Fault}

-- what follows from a place; something else where there is none
unfoldable pub on_place {ℓ} : {A : Type ℓ} → Option ℕ → A → (ℕ → A) → A
on_place (Some i) none go = go i
on_place None none go = none

-- The count of the line at a place, with the place of the next line: the word, its space with it, a number from least
-- to most, and the line end. Anything else is SHEET on the line.
unfoldable pub count_of : List ℕ → ℕ → ℕ → List ℕ → ℕ → ℕ → Result (ℕ × ℕ) Fault
unfolding word_of field_of on_number on_place pick
count_of word least most sheet at line =
    on_place (word_of word sheet at) (Err (Sheet line))
    (λ digits. on_number (field_of most 10 sheet digits) (Err (Sheet line))
    (λ n next. pick (ltb n least) (Err (Sheet line)) (Ok (n, next))))

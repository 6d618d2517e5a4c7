-- The section of the costs: `costs 0` for the unit table, or `costs 4` and four lines of four numbers, one space apart.
-- Assumes nothing.
use Rattle.std.specs.Prelude.{Result, Ok, Err, List, [], ◌∷◌, ℕ, zero, suc, ◌+◌, eqb, length, get_or}
use Rattle.sheet_lines.specs.Bytes.{bytes}
use Rattle.sheet_lines.specs.Count.{count_of}
use Rattle.sheet_lines.specs.Counting.{Counting, counting, on_count}
use Rattle.sheet_lines.specs.Number.{field_of, on_number}
use Rattle.sheet_lines.specs.Section.{Item, item, fault, Section, section}
use Rattle.sheet_lines.specs.declared.Fault.TheVariants.{Sheet}
use Rattle.parsimony.specs.Test.{pick}
use Rattle.sheet_lines.specs.declared.Fault.{Fault}

-- a line whose item is its four costs
unfoldable pub cost_item : Result (List ℕ × ℕ) Fault → Item (List ℕ)
cost_item (Ok (row, next)) = item row next
cost_item (Err f) = fault f

-- The row of the cost table on the line at a place, for the parent's state x: four numbers of at most 999, one space
-- apart, with the line end after them; the x-th, counted from 0, is 0. Anything else is SHEET on the line.
unfoldable pub cost_row_of : List ℕ → ℕ → ℕ → ℕ → Item (List ℕ)
unfolding pick field_of on_number
cost_row_of sheet x at line =
    on_number (field_of 999 32 sheet at) (fault (Sheet line))
    (λ a second. on_number (field_of 999 32 sheet second) (fault (Sheet line))
    (λ b third. on_number (field_of 999 32 sheet third) (fault (Sheet line))
    (λ c fourth. on_number (field_of 999 10 sheet fourth) (fault (Sheet line))
    (λ d next. pick (eqb (get_or (a ∷ b ∷ c ∷ d ∷ []) x 0) 0) (item (a ∷ b ∷ c ∷ d ∷ []) next) (fault (Sheet line))))))

-- the state of a row is the number of rows before it
unfoldable pub cost_judge : List ℕ → List (List ℕ) → ℕ → ℕ → Item (List ℕ)
unfolding cost_row_of
cost_judge sheet earlier at line = cost_row_of sheet (length earlier) at line

-- the unit table: every change costs 1
unfoldable pub unit_table : List (List ℕ)
unit_table =
    (0 ∷ 1 ∷ 1 ∷ 1 ∷ [])
    ∷ (1 ∷ 0 ∷ 1 ∷ 1 ∷ [])
    ∷ (1 ∷ 1 ∷ 0 ∷ 1 ∷ [])
    ∷ (1 ∷ 1 ∷ 1 ∷ 0 ∷ [])
    ∷ []

-- the table of a count: the unit table for 0, with no line, and else four lines
unfoldable pub cost_table : List ℕ → ℕ → ℕ → ℕ → Section (List ℕ)
unfolding unit_table section cost_judge
cost_table sheet zero at line = record { items = unit_table; part = Ok at }
cost_table sheet (suc k) at line = section (cost_judge sheet) 4 at line []

-- the count on the line at a place, which is 0 or 4
unfoldable pub cost_count : List ℕ → ℕ → ℕ → Result (ℕ × ℕ) Fault
unfolding pick bytes count_of on_count
cost_count sheet at line =
    on_count (count_of (bytes "costs ") 0 4 sheet at line) Err
    (λ k next. pick (eqb k 0) (Ok (k, next)) (pick (eqb k 4) (Ok (k, next)) (Err (Sheet line))))

-- the section of the costs at a place and on a line
unfoldable pub costs_of : List ℕ → ℕ → ℕ → Counting (List ℕ)
unfolding counting cost_count cost_table
costs_of sheet at line = counting (cost_count sheet at line) (λ k next. cost_table sheet k next (line + 1))

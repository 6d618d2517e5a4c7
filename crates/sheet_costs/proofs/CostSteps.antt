-- A row of the cost table, the table and its count, part by part.
-- Assumes nothing.
use mathlib.Core.List.{List, []}
use mathlib.Core.Path.{◌≡◌, refl, sym}
use Prim.Native.Nat.{ℕ, zero, suc}
use native.Mathlib.Omega.{arith}
use borrow.Author.Tests.{eq-eqb, ne_eqb}
use lib.ListN.{length, drop_of_length-le}
use Rattle.std.proofs.Common.{Result, Ok, Err}
use Rattle.sheet_costs.specs.Costs.{cost_row_of, cost_judge, unit_table, cost_table, cost_count}
use Rattle.sheet_lines.specs.Bytes.{bytes}
use Rattle.sheet_lines.specs.Count.{count_of}
use Rattle.sheet_lines.specs.Counting.{on_count}
use Rattle.sheet_lines.specs.Section.{Item, GivesSection, section, wrote}
use Rattle.sheet_lines.specs.declared.Fault.{Fault}
use Rattle.sheet_lines.specs.declared.Fault.TheVariants.{Sheet}

-- the unit table over any table of four rows
pub unit_written : (table : List (List ℕ)) → length table ≡ 4 → unit_table ≡ wrote unit_table table
unfolding wrote unit_table
unit_written table e = rw (drop_of_length-le table {i = 4} (omega arith))

-- a count that is not 0: four lines
table_some : (sheet : List ℕ) (k at line : ℕ) → (k ≡ 0 → ⊥)
    → cost_table sheet k at line ≡ section (cost_judge sheet) 4 at line []
unfolding cost_table
table_some sheet zero at line h = absurd (h refl)
table_some sheet (suc k) at line h = refl

-- the state of a row is the number of rows before it
pub judged_row : (sheet : List ℕ) (earlier : List (List ℕ)) (x at line : ℕ) {judged : Item (List ℕ)}
    → length earlier ≡ x → judged ≡ cost_row_of sheet x at line → cost_judge sheet earlier at line ≡ judged
unfolding cost_judge
judged_row sheet earlier x at line state e = rw state (sym e)

-- the count of the costs, by the number that is read
module _ (sheet : List ℕ) (at line : ℕ) (answer : Result (ℕ × ℕ) Fault)
    (read : answer ≡ count_of (bytes "costs ") 0 4 sheet at line) where
  pub cost_count_none : (f : Fault) → answer ≡ Err f → answer ≡ cost_count sheet at line
  unfolding cost_count on_count
  cost_count_none f e = rw (← read, e)

  pub cost_count_zero : (k next : ℕ) → answer ≡ Ok (k, next) → k ≡ 0 → answer ≡ cost_count sheet at line
  unfolding cost_count on_count
  cost_count_zero k next e z = rw (← read, e, eq-eqb k 0 z)

  pub cost_count_four : (k next : ℕ) → answer ≡ Ok (k, next) → (k ≡ 0 → ⊥) → k ≡ 4 → answer ≡ cost_count sheet at line
  unfolding cost_count on_count
  cost_count_four k next e n z = rw (← read, e, ne_eqb k 0 n, eq-eqb k 4 z)

  pub cost_count_other : (k next : ℕ) → answer ≡ Ok (k, next) → (k ≡ 0 → ⊥) → (k ≡ 4 → ⊥)
      → Err (Sheet line) ≡ cost_count sheet at line
  unfolding cost_count on_count
  cost_count_other k next e n z = rw (← read, e, ne_eqb k 0 n, ne_eqb k 4 z)

-- what the table of a count gives
pub table_none : (sheet : List ℕ) (k at line : ℕ) {entry exit : List (List ℕ)} → k ≡ 0 → exit ≡ wrote unit_table entry
    → GivesSection (cost_table sheet k at line) (Ok at) entry exit
unfolding cost_table
table_none sheet k at line z e = rw z (record { said = refl; written = e })

pub table_four : (sheet : List ℕ) (k at line : ℕ) {answer : Result ℕ Fault} {entry exit : List (List ℕ)} → (k ≡ 0 → ⊥)
    → GivesSection (section (cost_judge sheet) 4 at line []) answer entry exit
    → GivesSection (cost_table sheet k at line) answer entry exit
table_four sheet k at line n gives = rw (table_some sheet k at line n) gives

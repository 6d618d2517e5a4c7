-- The cost table that is read keeps the rules of costs.
-- Assumes nothing.
use mathlib.Core.List.{List, [], ◌∷◌}
use mathlib.Core.Path.{◌≡◌, refl, sym, subst, ◌∙◌}
use Prim.Native.Nat.{ℕ, zero, suc, ◌+◌, ◌<◌}
use native.Mathlib.Omega.{arith}
use lib.ListN.{length, get_or, take}
use lib.Seq.{length-take-le}
use Rattle.std.proofs.Common.{Ok}
use Rattle.sheet_costs.specs.CostRules.{RowRules, TableRules}
use Rattle.sheet_costs.specs.Costs.{cost_judge, unit_table, cost_table, cost_count, costs_of}
use Rattle.sheet_lines.proofs.CountingLaws.{counting_read}
use Rattle.sheet_lines.proofs.SectionReads.{section_judged, section_size}
use Rattle.sheet_lines.specs.Section.{section}
use Rattle.sheet_costs.proofs.CostLaws.{four_costs, cost_row_rules}

-- the unit table keeps them
pub unit_rules : TableRules unit_table
unfolding unit_table
unit_rules = record { size = refl; rows = rows }
  where
    rows : (x : ℕ) → x < 4
        → RowRules x
        (get_or ((0 ∷ 1 ∷ 1 ∷ 1 ∷ []) ∷ (1 ∷ 0 ∷ 1 ∷ 1 ∷ []) ∷ (1 ∷ 1 ∷ 0 ∷ 1 ∷ []) ∷ (1 ∷ 1 ∷ 1 ∷ 0 ∷ []) ∷ []) x [])
    rows zero h = four_costs 0 0 1 1 1 (omega arith) (omega arith) (omega arith) (omega arith) refl
    rows (suc zero) h = four_costs 1 1 0 1 1 (omega arith) (omega arith) (omega arith) (omega arith) refl
    rows (suc (suc zero)) h = four_costs 2 1 1 0 1 (omega arith) (omega arith) (omega arith) (omega arith) refl
    rows (suc (suc (suc zero))) h = four_costs 3 1 1 1 0 (omega arith) (omega arith) (omega arith) (omega arith) refl
    rows (suc (suc (suc (suc x)))) h = absurd (omega arith)

-- four lines that are read keep them
pub lines_rules : (sheet : List ℕ) (at line next : ℕ) → (section (cost_judge sheet) 4 at line []).part ≡ Ok next
    → TableRules (section (cost_judge sheet) 4 at line []).items
unfolding cost_judge
lines_rules sheet at line next e =
    let size = section_size (cost_judge sheet) 4 at line next [] e in
    record {
      size = omega (arith, size);
      rows = λ x h.
          let items = (section (cost_judge sheet) 4 at line []).items in
          let low : x < length items = omega (arith, size) in
          let judged = section_judged (cost_judge sheet) 4 at line line [] [] (omega arith) x (omega arith) low in
          let state = length-take-le x items (omega (arith, size)) in
          subst (λ s. RowRules s (get_or items x [])) state
          (cost_row_rules sheet (length (take x items)) judged.place (line + x) _ judged.next judged.fair);
    }

table_rules_lem : (sheet : List ℕ) (k at line next : ℕ) → (cost_table sheet k at line).part ≡ Ok next
    → TableRules (cost_table sheet k at line).items
unfolding cost_table
table_rules_lem sheet zero at line next e = unit_rules
table_rules_lem sheet (suc k) at line next e = lines_rules sheet at line next e

-- a cost table that is read keeps them, and is the unit table where its count is 0
pub costs_rules : (sheet : List ℕ) (at line k next : ℕ) → (costs_of sheet at line).count ≡ Ok (k, next)
    → TableRules (costs_of sheet at line).items
unfolding costs_of
costs_rules sheet at line k next e =
    let count = cost_count sheet at line in
    let read = counting_read (λ n i. cost_table sheet n i (line + 1)) count k next e in
    rw read.3 (table_rules_lem sheet k read.0 (line + 1) next read.2)

pub costs_unit : (sheet : List ℕ) (at line k next : ℕ) → (costs_of sheet at line).count ≡ Ok (k, next) → k ≡ 0
    → (costs_of sheet at line).items ≡ unit_table
unfolding costs_of cost_table
costs_unit sheet at line k next e z =
    let count = cost_count sheet at line in
    let read = counting_read (λ n i. cost_table sheet n i (line + 1)) count k next e in
    read.3 ∙ subst (λ n. (cost_table sheet n read.0 (line + 1)).items ≡ unit_table) (sym z) refl

-- Where the cell of a symbol tip and the row of a handed tip stand among those of the table.
-- Assumes nothing.
use Rattle.std.proofs.Common.{◌≡◌, ℕ, ◌+◌, ◌*◌, ◌<◌, ◌≤◌, length, suc, sym, ap, ◌∙◌, subst, arith}
use native.Mathlib.Nat.{mul-le-mul_right, suc-mul, le-mul_of_pos_right}
use Rattle.parsimony.specs.Table.{symbol, handed, leaf}
use Rattle.parsimony.proofs.ColumnLaws.{place, cell_place}
use Rattle.parsimony.proofs.ShapeLaws.{row_within}
use Rattle.promises.specs.CallRules.{Allowed}
use Rattle.promises.specs.Input.{Input, nodes, node_in, tips_in}
use Rattle.promises.proofs.TableLaws.{table_state}

module _ (I : Input) (table : Allowed I) (j : ℕ) (inside : j < I.c) (v : ℕ) (h : v < nodes I) where
  -- the cell of a symbol tip
  pub cell_there : (r : ℕ) → leaf symbol r ≡ node_in I v → r * I.c + j < length I.cells
  cell_there r is = cell_place table.legal v h I.c j r (length I.cells) table.cells.count inside (sym is)

  module _ (t : ℕ) (count : t ≡ tips_in handed I) (k : ℕ) (is : leaf handed k ≡ node_in I v) where
    -- the row of a handed tip is one of the rows handed in its column
    row_number : j * t + k < I.c * t
    row_number =
        place j k I.c t inside (subst (λ n. k < n) (sym count) (row_within (nodes I) (node_in I) table.legal.tree v h handed k (sym is)))

    -- its entries stand among those handed
    pub row_there : (j * t + k) * I.s + I.s ≤ length I.handed
    row_there =
        let whole : suc (j * t + k) * I.s ≤ I.c * t * I.s = mul-le-mul_right I.s row_number in
        let one = suc-mul (j * t + k) I.s in
        let long : length I.handed ≡ I.c * t * I.s =
        table.handed.count ∙ ap (λ m. I.c * m * I.s) (sym count) in
        omega arith

    -- and its number is no greater than their place
    pub number_small : j * t + k < length I.handed
    number_small =
        let grows = le-mul_of_pos_right (j * t + k) (table_state I table) in
        let there = row_there in
        let some = table_state I table in
        omega arith

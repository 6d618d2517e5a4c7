-- A range of columns sits in its table, keeps every rule, and may be cut again.
-- Assumes nothing.
use mathlib.Core.Logic.{◌⊎◌}
use mathlib.Core.Path.{◌≡◌, refl, ap, sym, ◌∙◌, subst}
use Prim.Native.Nat.{ℕ, ◌+◌, ◌*◌, ◌≤◌, ◌<◌}
use native.Mathlib.Omega.{arith}
use Rattle.parsimony.specs.Allowed.{CellRules, HandedRules, most_handed}
use Rattle.parsimony.specs.Barred.{barred}
use Rattle.parsimony.specs.Column.{column_of, cell_at, handed_at, cell_entry, tip_entry}
use Rattle.parsimony.specs.Row.{row}
use Rattle.parsimony.specs.Table.{symbol, handed, Node, leaf, inner, kids_of}
use Rattle.parsimony.specs.Tree.{tip}
use Rattle.parsimony.proofs.ColumnLaws.{place}
use Rattle.parsimony.proofs.RowLaws.{row_tip}
use Rattle.parsimony.proofs.ShapeLaws.{row_within}
use Rattle.parsimony.proofs.TreeLaws.{two_not_tip}
use Rattle.promises.specs.CallRules.{Allowed}
use Rattle.promises.specs.Input.{Input, nodes, node_in, tips_in, column}
use Rattle.promises.proofs.TableLaws.{table_node, table_sound}
use Rattle.cuts.specs.Cut.{span, later_cell, later_entry}
use Rattle.cuts.specs.Cuttable.{Cuttable}
use Rattle.cuts.specs.Sits.{Sits}
use Rattle.cuts.proofs.FilledLaws.{cells_at, entries_at}
use Rattle.cuts.proofs.PieceRules.{cells_rules, entries_rules}
use Rattle.cuts.proofs.SitsLaws.{sits_rows}

module _ (I : Input) (old : Cuttable I) (first count : ℕ) (within : first + count ≤ I.c) where
  abbrev table : Allowed I
  table = old.table

  abbrev J : Input
  J = span I first count

  span_cells : CellRules I.s (tips_in symbol I) count J.cells
  unfolding later_cell cell_at
  span_cells =
      let most = table.cells.columns in
      cells_rules I.s (tips_in symbol I) count (later_cell I first) (omega arith)
      (λ r j hr hj. let q = place r (first + j) (tips_in symbol I) I.c hr (omega arith) in
      (table.cells.filled _ q, table.cells.bits _ q))

  span_entries : HandedRules I.s count (tips_in handed I) J.handed
  unfolding later_entry handed_at
  span_entries =
      let h = tips_in handed I in
      entries_rules I.s count h (later_entry I first)
      (λ j k x hj hk hx. table.handed.range _
      (place ((first + j) * h + k) x (I.c * h) I.s (place (first + j) k I.c h (omega arith) hk) hx))
      (λ j k hj hk. table.handed.unbarred ((first + j) * h + k) (place (first + j) k I.c h (omega arith) hk))

  pub span_rules : Allowed J
  span_rules =
      record { legal = table.legal; costs = table.costs; cells = span_cells; handed = span_entries }

  tip_same : (j v x : ℕ) → j < count → v < nodes I → x < I.s → (y : Node) → node_in I v ≡ y → kids_of y ≡ tip
      → tip_entry (cell_at count J.cells j) (handed_at I.s (tips_in handed I) J.handed j) y x
      ≡ tip_entry (cell_at I.c I.cells (first + j)) (handed_at I.s (tips_in handed I) I.handed (first + j)) y x
  unfolding later_cell later_entry cell_at handed_at
  tip_same j v x hj h hx (leaf symbol r) e t =
      let low = row_within (nodes I) (node_in I) table.legal.tree v h symbol r e in
      ap (λ z. cell_entry z x) (cells_at (tips_in symbol I) count (later_cell I first) r j low hj)
  tip_same j v x hj h hx (leaf handed k) e t =
      let low = row_within (nodes I) (node_in I) table.legal.tree v h handed k e in
      entries_at count (tips_in handed I) I.s (later_entry I first) j k x hj low hx
  tip_same j v x hj h hx (inner a b) e t = absurd (two_not_tip a b t)

  -- Column j of the range is the table's column first + j.
  pub span_sits : (j : ℕ) → j < count → Sits (column J j) (column I (first + j)) (λ v. v)
  unfolding column_of
  span_sits j hj =
      record {
        states = refl;
        cost = refl;
        inside = λ v h. h;
        inner = λ v a b h e. e;
        tips = λ v x h e hx.
            let some = table_node I table in
            tip_same j v x hj (omega arith) hx (node_in I v) refl e
            ∙ sym (row_tip (column I (first + j)) (table_sound I table (first + j) (omega arith)).tree v x h e);
      }

  pub span_row : (j v x : ℕ) → j < count → v < nodes I → x < I.s
      → row (column J j) v x ≡ row (column I (first + j)) v x
  unfolding column_of
  span_row j v x hj h hx =
      let whole = table_sound I table (first + j) (omega arith) in
      sits_rows (column J j) (column I (first + j)) (λ v. v) (span_sits j hj) (table_sound J span_rules j hj).tree
      whole.tree whole.states v x (omega arith) hx

  pub span_cuttable : Cuttable J
  span_cuttable =
      record {
        table = span_rules;
        small = λ j v x hj h hx. subst (λ z. (z ≤ most_handed) ⊎ (z ≡ barred)) (sym (span_row j v x hj h hx))
            (old.small (first + j) v x (omega arith) h hx);
      }

-- Demand 2 in the paper's words, for every legal table with any costs, cells and handed rows that are allowed.
-- Assumes nothing.
use mathlib.Core.List.{List}
use mathlib.Core.Logic.{◌↔◌}
use mathlib.Core.Path.{◌≡◌, refl}
use Prim.Native.Nat.{ℕ, ◌+◌, ◌*◌, ◌-◌, ◌^◌, ◌≤◌, ◌<◌}
use native.Mathlib.Omega.{arith}
use lib.ListN.{length}
use Rattle.parsimony.specs.Allowed.{CostRules, CellRules, HandedRules, most_handed}
use Rattle.parsimony.specs.Barred.{barred}
use Rattle.parsimony.specs.Column.{Column, column_of, cost_at, cell_at, handed_at, cell_entry, tip_entry}
use Rattle.parsimony.specs.Counting.{UnitCosts, counted_at, tip_cell}
use Rattle.parsimony.specs.Label.{label}
use Rattle.parsimony.specs.Labelling.{IsScore}
use Rattle.parsimony.specs.NodeSet.{Taken, TakenFrom, sets, sets_from}
use Rattle.parsimony.specs.Row.{row, score}
use Rattle.parsimony.specs.Sound.{Sound}
use Rattle.parsimony.specs.StateSet.{Member}
use Rattle.parsimony.specs.Table.{Legal, symbol, handed, Node, leaf, inner, kids_of, kids_at, node_at, tips}
use Rattle.parsimony.specs.TipKinds.{AgreesByKind, cost_by_kind}
use Rattle.parsimony.specs.Tree.{tip}
use Rattle.parsimony.proofs.ColumnLaws.{cell_place, column_sound, agrees_by_kind, cost_by_kind_lem}
use Rattle.parsimony.proofs.PrelimLaws.{count_score, count_sets}
use Rattle.parsimony.proofs.Scoring.{
  score_no_less,
  score_least,
  label_agrees,
  label_costs,
  set_exactly,
  set_from_exactly,
}
use Rattle.parsimony.proofs.ShapeLaws.{row_within}
use Rattle.parsimony.proofs.TreeLaws.{two_not_tip}

module _ (left right : List ℕ) (s : ℕ) (costs : List ℕ) (c : ℕ) (cells entries : List ℕ) (j : ℕ)
    (legal : Legal left right) (cost_rules : CostRules s costs)
    (cell_rules : CellRules s (tips symbol (node_at left right) (length left)) c cells)
    (handed_rules : HandedRules s c (tips handed (node_at left right) (length left)) entries) (inside : j < c) where
  abbrev col : Column
  col = column_of left right s costs c cells entries j

  sound : Sound most_handed col
  sound = column_sound left right s costs c cells entries j legal cost_rules cell_rules handed_rules inside

  some_node : 0 < length left
  some_node = let odd = legal.size.odd in omega arith

  -- the score is the least total cost over all labellings that agree with the tips
  pub column_score : IsScore col (score col)
  column_score = score_least most_handed col sound

  -- no labelling that agrees with the tips, each symbol tip in its cell and each handed tip unbarred, costs less
  pub column_no_less : (l : ℕ → ℕ) → AgreesByKind left right s c cells entries j l
      → score col ≤ cost_by_kind left right s costs entries j l
  column_no_less l agrees =
      let a = (agrees_by_kind left right s costs c cells entries j l some_node).1 agrees in
      let e = cost_by_kind_lem left right s costs c cells entries j l some_node agrees in
      let n = score_no_less most_handed col sound l a in
      omega arith

  -- the labelling returned agrees with the tips
  pub returned_agrees : AgreesByKind left right s c cells entries j (label col)
  returned_agrees =
      (agrees_by_kind left right s costs c cells entries j (label col) some_node).0 (label_agrees most_handed col sound)

  -- and costs exactly the score: all edges plus the handed entries
  pub returned_costs : cost_by_kind left right s costs entries j (label col) ≡ score col
  returned_costs =
      let e = cost_by_kind_lem left right s costs c cells entries j (label col) some_node returned_agrees in
      let f = label_costs most_handed col sound in
      omega arith

  -- a node's set holds a state exactly when some least labelling takes it there
  pub column_set : (v y : ℕ) → v ≤ length left - 1 → Member (sets col v) y ↔ Taken col v y
  unfolding column_of
  column_set v y h = set_exactly most_handed col sound v y h

  -- from a start set, exactly when for some member some labelling least with that root takes it there
  pub column_set_from : (w : ℕ) → w < 2 ^ s → ((x : ℕ) → Member w x → row col (length left - 1) x ≡ barred → ⊥)
      → (v y : ℕ) → v ≤ length left - 1 → Member (sets_from col w v) y ↔ TakenFrom col w v y
  unfolding column_of
  column_set_from w hw open_root v y h = set_from_exactly most_handed col sound w hw open_root v y h

  -- with unit costs and no handed tips, counting by sets gives the same score and the same root set
  pub column_count : tips handed (node_at left right) (length left) ≡ 0 → UnitCosts s (cost_at s costs)
      → ((counted_at left right c cells j (length left - 1)).changes ≡ score col)
      × ((counted_at left right c cells j (length left - 1)).set ≡ sets col (length left - 1))
  unfolding column_of counted_at
  column_count none_handed unit =
      let cell : ℕ → ℕ = λ u. tip_cell (cell_at c cells j) (node_at left right u) in (
        count_score most_handed col sound unit cell tip_rows_lem tip_filled tip_bits,
        count_sets most_handed col sound unit cell tip_rows_lem tip_filled tip_bits,
      )
    where
      no_handed : (v k : ℕ) → v ≤ length left - 1 → node_at left right v ≡ leaf handed k → ⊥
      no_handed v k h e =
          let inside_table : v < length left = let n = some_node in omega arith in
          let w = row_within (length left) (node_at left right) legal.tree v inside_table handed k e in
          omega arith

      cell_at_lem : (v r : ℕ) → v ≤ length left - 1 → node_at left right v ≡ leaf symbol r
          → r * c + j < tips symbol (node_at left right) (length left) * c
      cell_at_lem v r h e =
          let inside_table : v < length left = let n = some_node in omega arith in
          cell_place legal v inside_table c j r _ refl inside e

      tip_rows_lem : (v x : ℕ) → v ≤ length left - 1 → kids_at left right v ≡ tip → x < s
          → col.entry v x ≡ cell_entry (tip_cell (cell_at c cells j) (node_at left right v)) x
      tip_rows_lem v x h e hx = by_node (node_at left right v) refl e
        where
          by_node : (n : Node) → node_at left right v ≡ n → kids_of n ≡ tip
              → tip_entry (cell_at c cells j) (handed_at s (tips handed (node_at left right) (length left)) entries j) n x
              ≡ cell_entry (tip_cell (cell_at c cells j) n) x
          by_node (leaf symbol r) e k = refl
          by_node (leaf handed r) e k = absurd (no_handed v r h e)
          by_node (inner a b) e k = absurd (two_not_tip a b k)

      tip_filled : (v : ℕ) → v ≤ length left - 1 → kids_at left right v ≡ tip
          → 0 < tip_cell (cell_at c cells j) (node_at left right v)
      tip_filled v h e = by_node (node_at left right v) refl e
        where
          by_node : (n : Node) → node_at left right v ≡ n → kids_of n ≡ tip → 0 < tip_cell (cell_at c cells j) n
          by_node (leaf symbol r) e k = cell_rules.filled (r * c + j) (cell_at_lem v r h e)
          by_node (leaf handed r) e k = absurd (no_handed v r h e)
          by_node (inner a b) e k = absurd (two_not_tip a b k)

      tip_bits : (v : ℕ) → v ≤ length left - 1 → kids_at left right v ≡ tip
          → tip_cell (cell_at c cells j) (node_at left right v) < 2 ^ s
      tip_bits v h e = by_node (node_at left right v) refl e
        where
          by_node : (n : Node) → node_at left right v ≡ n → kids_of n ≡ tip → tip_cell (cell_at c cells j) n < 2 ^ s
          by_node (leaf symbol r) e k = cell_rules.bits (r * c + j) (cell_at_lem v r h e)
          by_node (leaf handed r) e k = absurd (no_handed v r h e)
          by_node (inner a b) e k = absurd (two_not_tip a b k)

-- What a plan puts together is what the definitions by rows give on the whole table.
-- Assumes nothing.
use mathlib.Core.Path.{◌≡◌, ap, sym, ◌∙◌}
use Prim.Native.Nat.{ℕ, ◌-◌, ◌≤◌, ◌<◌}
use native.Mathlib.Omega.{arith}
use Rattle.parsimony.specs.Column.{Column, column_of}
use Rattle.parsimony.specs.Label.{label_from, choose}
use Rattle.parsimony.specs.NodeSet.{sets_from, child_set}
use Rattle.parsimony.specs.Row.{row}
use Rattle.parsimony.specs.Tie.{rule_in_use}
use Rattle.parsimony.specs.Tree.{Rooted}
use Rattle.parsimony.proofs.TieLaws.{in_use}
use Rattle.parsimony.proofs.TreeLaws.{descend_meets}
use Rattle.promises.specs.CallRules.{Allowed}
use Rattle.promises.specs.Input.{Input, nodes, column}
use Rattle.promises.proofs.TableLaws.{table_sound}
use Rattle.cuts.specs.Cut.{CutAt, part, rest, part_node, rest_node, in_part, in_rest}
use Rattle.cuts.specs.Cuttable.{Cuttable}
use Rattle.cuts.specs.Numbering.{renumber}
use Rattle.cuts.specs.Piece.{Choice, piece_node, kept_nodes, piece}
use Rattle.cuts.specs.Sits.{Sits}
use Rattle.cuts.proofs.CutLaws.{part_stands, rest_stands, in_either}
use Rattle.cuts.proofs.KeptLaws.{Stands, piece_top, piece_own, piece_some}
use Rattle.cuts.proofs.PieceNodes.{piece_nodes}
use Rattle.cuts.proofs.PieceRules.{piece_sits, piece_rules, piece_row, piece_cuttable}
use Rattle.cuts.proofs.SitsLaws.{sits_labels, sits_sets}

module _ (I : Input) (ok : Cuttable I) (K : Choice) (top : ℕ) (stands : Stands I K top) where
  -- the row of a piece's root is the table's row at the node on top
  pub top_row : (j x : ℕ) → j < I.c → x < I.s
      → row (column (piece I K) j) (nodes (piece I K) - 1) x ≡ row (column I j) top x
  top_row j x hj hx =
      let long = piece_nodes I ok.table K top stands in
      let some = piece_some I ok.table K top stands in
      let e : nodes (piece I K) - 1 ≡ kept_nodes I K - 1 = ap (λ k. k - 1) long in
      piece_row I ok.table K top stands ok.small j (nodes (piece I K) - 1) x hj (omega arith) hx
      ∙ ap (λ u. row (column I j) u x) (ap (piece_node I K) e ∙ piece_top I ok.table K top stands)

  pub again : Cuttable (piece I K)
  again = piece_cuttable I ok.table K top stands ok.small

-- Work from the root down: labels or sets, F of a column, a start and a node. It goes along with a column that sits in
-- another, and gives the root its start.
pub record Downward (F : Column → ℕ → ℕ → ℕ) : Type 0 where
  pub along : (A B : Column) (ρ : ℕ → ℕ) → Sits A B ρ → Rooted A.last A.kids → Rooted B.last B.kids
      → 0 < A.states → (x v : ℕ) → v ≤ A.last → F B x (ρ v) ≡ F A (F B x (ρ A.last)) v
  pub root : (P : Column) → Rooted P.last P.kids → (x : ℕ) → F P x P.last ≡ x

pub label_down : Downward (label_from rule_in_use)
unfolding label_from
label_down =
    record {
      along = λ A B ρ sits a b pos x v h. sits_labels A B ρ sits a b pos rule_in_use in_use x v h;
      root = λ P tree x. (descend_meets P.last P.kids tree (λ u. choose rule_in_use P (row P u)) x).root;
    }

pub sets_down : Downward sets_from
unfolding sets_from
sets_down =
    record {
      along = λ A B ρ sits a b pos w v h. sits_sets A B ρ sits a b pos w v h;
      root = λ P tree w. (descend_meets P.last P.kids tree (λ u. child_set P (row P u)) w).root;
    }

module _ (F : Column → ℕ → ℕ → ℕ) (down : Downward F) (I : Input) (ok : Cuttable I) where
  -- the work on a piece, from the value at the node on top, is the work on the table
  pub piece_down : (K : Choice) (top : ℕ) → Stands I K top → (j : ℕ) → j < I.c → (x i : ℕ) → i < nodes (piece I K)
      → F (column I j) x (piece_node I K i) ≡ F (column (piece I K) j) (F (column I j) x top) i
  unfolding column_of
  piece_down K top stands j hj x i hi =
      let table = ok.table in
      let whole_sound = table_sound I table j hj in
      let long = piece_nodes I table K top stands in
      let e : nodes (piece I K) - 1 ≡ kept_nodes I K - 1 = ap (λ k. k - 1) long in
      let peak : piece_node I K (nodes (piece I K) - 1) ≡ top = ap (piece_node I K) e ∙ piece_top I table K top stands in
      down.along (column (piece I K) j) (column I j) (piece_node I K) (piece_sits I table K top stands j hj)
      (table_sound (piece I K) (piece_rules I table K top stands ok.small) j hj).tree whole_sound.tree
      whole_sound.states x i (omega arith)
      ∙ ap (λ u. F (column (piece I K) j) (F (column I j) x u) i) peak

  module _ (v : ℕ) (cut : CutAt I v) (sent : ℕ → ℕ → ℕ)
      (right : (j x : ℕ) → j < I.c → x < I.s → sent j x ≡ row (column I j) v x) (j : ℕ) (hj : j < I.c) (x : ℕ)
      (f : ℕ → ℕ)
      (above : (i : ℕ) → i < nodes (rest I v sent) → f (rest_node I v sent i) ≡ F (column (rest I v sent) j) x i) where
    abbrev table : Allowed I
    table = ok.table

    -- on the rest's nodes the values are the table's
    pub cut_above : (u : ℕ) → u < nodes I → (in_rest I v sent).keep u ≡ 1 → f u ≡ F (column I j) x u
    unfolding column_of
    cut_above u h k =
        let stands = rest_stands I table v cut sent right in
        let (low, own) = piece_own I table (in_rest I v sent) (nodes I - 1) stands u h k in
        let long = piece_nodes I table (in_rest I v sent) (nodes I - 1) stands in
        let i = renumber (in_rest I v sent).keep u in
        let start : F (column I j) x (nodes I - 1) ≡ x = down.root (column I j) (table_sound I table j hj).tree x in
        ap f (sym own)
        ∙ above i (omega arith)
        ∙ ap (λ z. F (column (rest I v sent) j) z i) (sym start)
        ∙ sym (piece_down (in_rest I v sent) (nodes I - 1) stands j hj x i (omega arith))
        ∙ ap (F (column I j) x) own

    -- and so, with the part started at the value at v, they are on all nodes
    pub cut_down : f v ≡ F (column I j) x v
        → ((i : ℕ) → i < nodes (part I v) → f (part_node I v i) ≡ F (column (part I v) j) (f v) i)
        → (u : ℕ) → u < nodes I → f u ≡ F (column I j) x u
    cut_down own below u h =
        in_either I table v cut sent right u h (cut_above u h)
        (λ k. let stands = part_stands I table v cut in
        let (low, same) = piece_own I table (in_part I v) v stands u h k in
        let long = piece_nodes I table (in_part I v) v stands in
        let i = renumber (in_part I v).keep u in
        ap f (sym same)
        ∙ below i (omega arith)
        ∙ ap (λ z. F (column (part I v) j) z i) own
        ∙ sym (piece_down (in_part I v) v stands j hj x i (omega arith))
        ∙ ap (F (column I j) x) same)

-- An allowed table: its nodes, its columns, and the root's row of a column, which states it bars and where it is read.
-- Assumes nothing.
use mathlib.Core.Logic.{◌↔◌}
use mathlib.Core.Path.{◌≡◌, refl, ap, sym, ◌∙◌}
use Prim.Native.Nat.{ℕ, ◌+◌, ◌*◌, ◌-◌, ◌<◌}
use native.Mathlib.Omega.{arith}
use lib.ListN.{length}
use Rattle.parsimony.specs.Allowed.{most_handed}
use Rattle.parsimony.specs.Barred.{barred}
use Rattle.parsimony.specs.Column.{column_of, cell_at, handed_at, tip_entry}
use Rattle.parsimony.specs.Row.{row}
use Rattle.parsimony.specs.Sound.{Sound}
use Rattle.parsimony.specs.StateSet.{Member}
use Rattle.parsimony.specs.Table.{symbol, handed, Node, leaf, inner, kids_of}
use Rattle.parsimony.proofs.ColumnLaws.{place, column_sound, symbol_agrees}
use Rattle.parsimony.proofs.RowLaws.{row_tip}
use Rattle.parsimony.proofs.ShapeLaws.{row_within}
use Rattle.parsimony.proofs.Size.{bound_fits, row_bound}
use Rattle.promises.specs.CallRules.{Allowed}
use Rattle.promises.specs.Input.{Input, nodes, node_in, tips_in, column}
use Rattle.promises.specs.Starts.{OpenRoot}

module _ (I : Input) (table : Allowed I) where
  -- it has a node
  pub table_node : 0 < nodes I
  table_node = let odd = table.legal.size.odd in omega arith

  -- and a state
  pub table_state : 0 < I.s
  table_state = let fewest = table.costs.fewest in omega arith

  module _ (j : ℕ) (inside : j < I.c) where
    -- its columns are sound
    pub table_sound : Sound most_handed (column I j)
    table_sound =
        column_sound I.left I.right I.s I.costs I.c I.cells I.handed j table.legal
        table.costs table.cells table.handed inside

    -- the entry of a handed tip lies in the list of handed entries
    pub handed_place : (v k x : ℕ) → v < nodes I → node_in I v ≡ leaf handed k → x < I.s
        → (j * tips_in handed I + k) * I.s + x < length I.handed
    handed_place v k x h e hx =
        let w = row_within (nodes I) (node_in I) table.legal.tree v h handed k e in
        let p = place j k I.c (tips_in handed I) inside w in
        let q = place (j * tips_in handed I + k) x (I.c * tips_in handed I) I.s p hx in
        let n = table.handed.count in
        omega arith

    -- an inner root bars no state
    pub root_inner : (a b x : ℕ) → node_in I (nodes I - 1) ≡ inner a b → x < I.s → OpenRoot I j x
    unfolding column_of
    root_inner a b x e hx bar =
        let P = column I j in
        let s = row_bound most_handed P table_sound (nodes I - 1) a b x (omega arith) (ap kids_of e) hx in
        let f = bound_fits most_handed P table_sound in
        omega arith

    root_leaf : (n : Node) (x : ℕ) → node_in I (nodes I - 1) ≡ n → kids_of n ≡ kids_of (leaf symbol 0)
        → row (column I j) (nodes I - 1) x
        ≡ tip_entry (cell_at I.c I.cells j) (handed_at I.s (tips_in handed I) I.handed j) n x
    unfolding column_of
    root_leaf n x e t =
        row_tip (column I j) table_sound.tree (nodes I - 1) x (omega arith) (ap kids_of e ∙ t)
        ∙ ap (λ m. tip_entry (cell_at I.c I.cells j) (handed_at I.s (tips_in handed I) I.handed j) m x) e

    -- a symbol tip as root bars the states that are not in its cell
    pub root_symbol : (r x : ℕ) → node_in I (nodes I - 1) ≡ leaf symbol r
        → Member (cell_at I.c I.cells j r) x ↔ OpenRoot I j x
    root_symbol r x e =
        let same = root_leaf (leaf symbol r) x e refl in
        let agrees = symbol_agrees (cell_at I.c I.cells j r) x in
        ((λ m bar. agrees.1 m (sym same ∙ bar)), (λ open_root. agrees.0 (λ bar. open_root (same ∙ bar))))

    -- a handed tip as root bars what its handed row bars
    pub root_handed : (k x : ℕ) → node_in I (nodes I - 1) ≡ leaf handed k
        → (handed_at I.s (tips_in handed I) I.handed j k x ≡ barred → ⊥) ↔ OpenRoot I j x
    root_handed k x e =
        let same = root_leaf (leaf handed k) x e refl in
        ((λ n bar. n (sym same ∙ bar)), (λ open_root bar. open_root (same ∙ bar)))

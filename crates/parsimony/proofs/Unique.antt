-- Rows, labels and sets are determined: whatever meets their equations is equal to them on every node.
-- Assumes nothing.
use mathlib.Core.Path.{◌≡◌, ap, ap₂}
use Prim.Native.Nat.{ℕ, ◌≤◌, ◌<◌}
use native.Mathlib.Omega.{arith}
use lib.Dec.{eqb}
use Rattle.parsimony.specs.Barred.{plus}
use Rattle.parsimony.specs.Column.{Column}
use Rattle.parsimony.specs.Label.{choose, IsLabels, label_from}
use Rattle.parsimony.specs.Tie.{TieRule}
use Rattle.parsimony.specs.NodeSet.{reaches, child_set, IsSets, sets_from}
use Rattle.parsimony.specs.Row.{through, row, IsRows}
use Rattle.parsimony.specs.StateSet.{holds}
use Rattle.parsimony.specs.Test.{both}
use Rattle.parsimony.specs.Tree.{Rooted}
use Rattle.parsimony.proofs.RowLaws.{row_rows, rows_unique, up_same}
use Rattle.parsimony.proofs.StateCountLaws.{gather_same, some_same}
use Rattle.parsimony.proofs.TreeLaws.{descend_meets, descent_unique}

-- the choosing step looks at a child's entries below the number of states alone
pub choose_same : (rule : ℕ → ℕ → (ℕ → ℕ) → ℕ) → TieRule rule → (P : Column) (r q : ℕ → ℕ)
    → ((y : ℕ) → y < P.states → r y ≡ q y) → (x : ℕ) → choose rule P r x ≡ choose rule P q x
unfolding choose
choose_same rule ties P r q h x =
    ties.same P.states x (through P r x) (through P q x) (λ y k. ap (plus (P.cost x y)) (h y k))

-- and so does the set step
pub child_same : (P : Column) → 0 < P.states → (r q : ℕ → ℕ) → ((y : ℕ) → y < P.states → r y ≡ q y) → (w : ℕ)
    → child_set P r w ≡ child_set P q w
unfolding child_set reaches
child_same P pos r q h w =
    gather_same _ _ P.states
    (λ y hy. some_same _ _ P.states
    (λ x hx. ap (both (holds w x)) (ap₂ eqb (ap (plus (P.cost x y)) (h y hy)) (up_same P pos r q h x))))

module _ (P : Column) (tree : Rooted P.last P.kids) (pos : 0 < P.states) (R : ℕ → ℕ → ℕ)
    (rows : IsRows P R) where
  rows_are : (u y : ℕ) → u < P.last → y < P.states → R u y ≡ row P u y
  rows_are u y hu hy = rows_unique P tree pos R (row P) rows (row_rows P tree) u y (omega arith) hy

  -- whatever meets the equations of the labelling from x, over rows that are rows, is that labelling
  pub labels_unique : (rule : ℕ → ℕ → (ℕ → ℕ) → ℕ) → TieRule rule → (x : ℕ) (l : ℕ → ℕ) → IsLabels rule P R x l
      → (v : ℕ) → v ≤ P.last → l v ≡ label_from rule P x v
  unfolding label_from
  labels_unique rule ties x l meets =
      descent_unique P.last P.kids tree x (λ u. choose rule P (R u)) (λ u. choose rule P (row P u))
      (λ u z hu. choose_same rule ties P (R u) (row P u) (λ y hy. rows_are u y hu hy) z)
      l _ meets (descend_meets P.last P.kids tree (λ u. choose rule P (row P u)) x)

  -- and likewise the sets from a start set w
  pub sets_unique : (w : ℕ) (S : ℕ → ℕ) → IsSets P R w S → (v : ℕ) → v ≤ P.last → S v ≡ sets_from P w v
  unfolding sets_from
  sets_unique w S meets =
      descent_unique P.last P.kids tree w (λ u. child_set P (R u)) (λ u. child_set P (row P u))
      (λ u z hu. child_same P pos (R u) (row P u) (λ y hy. rows_are u y hu hy) z)
      S _ meets (descend_meets P.last P.kids tree (λ u. child_set P (row P u)) w)

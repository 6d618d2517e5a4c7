-- Laws of rows: their equations, and that nothing else meets them.
-- Assumes nothing.
use mathlib.Core.Logic.{inl, inr}
use mathlib.Core.Path.{◌≡◌, refl, ap, ap₂, sym, ◌∙◌}
use Prim.Native.Nat.{ℕ, ◌+◌, ◌≤◌, ◌<◌}
use native.Mathlib.Omega.{arith}
use Rattle.parsimony.specs.Barred.{plus}
use Rattle.parsimony.specs.Column.{Column}
use Rattle.parsimony.specs.Least.{low}
use Rattle.parsimony.specs.Row.{through, up, inner_row, row, IsRows}
use Rattle.parsimony.specs.Tree.{Kids, tip, two, Has, Rooted, merge}
use Rattle.parsimony.proofs.BarredLaws.{plus_le}
use Rattle.parsimony.proofs.LeastLaws.{least_below, least_same, least_low}
use Rattle.parsimony.proofs.Order.{strong}
use Rattle.parsimony.proofs.TreeLaws.{ascend_step}

-- the least up an edge is at most the change and the child's entry, for every state of the child
pub up_le : (P : Column) (r : ℕ → ℕ) (x y : ℕ) → y < P.states → up P r x ≤ P.cost x y + r y
unfolding up
up_le P r x y h =
    let a = least_below (through P r x) P.states y h in
    let b = plus_le (P.cost x y) (r y) in
    omega arith

-- it is reached at the lowest state
pub up_low : (P : Column) (r : ℕ → ℕ) (x : ℕ) → up P r x ≡ through P r x (low (through P r x) P.states)
unfolding up
up_low P r x = least_low (through P r x) P.states

-- it depends on the child's entries alone
pub up_same : (P : Column) → 0 < P.states → (r q : ℕ → ℕ) → ((y : ℕ) → y < P.states → r y ≡ q y) → (x : ℕ)
    → up P r x ≡ up P q x
unfolding up
up_same P pos r q h x =
    least_same (through P r x) (through P q x) P.states pos (λ y k. ap (plus (P.cost x y)) (h y k))

pub inner_same : (P : Column) → 0 < P.states → (a b c d : ℕ → ℕ)
    → ((y : ℕ) → y < P.states → a y ≡ c y) → ((y : ℕ) → y < P.states → b y ≡ d y)
    → (x : ℕ) → inner_row P a b x ≡ inner_row P c d x
unfolding inner_row
inner_same P pos a b c d h k x = ap₂ plus (up_same P pos a c h x) (up_same P pos b d k x)

module _ (P : Column) (tree : Rooted P.last P.kids) where
  -- the rows are rows
  pub row_rows : IsRows P (row P)
  unfolding row
  row_rows v x h k = ap (λ (f : ℕ → ℕ). f x) (ascend_step P.last P.kids tree P.entry (inner_row P) v h)

  -- a tip's row is its own
  pub row_tip : (v x : ℕ) → v ≤ P.last → P.kids v ≡ tip → row P v x ≡ P.entry v x
  unfolding row
  row_tip v x h e =
      ap (λ (f : ℕ → ℕ). f x) (ascend_step P.last P.kids tree P.entry (inner_row P) v h)
      ∙ ap (λ k. merge k (P.entry v) (inner_row P) (row P) x) e

  -- an inner node's row comes from its children's
  pub row_inner : (v a b x : ℕ) → v ≤ P.last → P.kids v ≡ two a b
      → row P v x ≡ plus (up P (row P a) x) (up P (row P b) x)
  unfolding row inner_row
  row_inner v a b x h e =
      ap (λ (f : ℕ → ℕ). f x) (ascend_step P.last P.kids tree P.entry (inner_row P) v h)
      ∙ ap (λ k. merge k (P.entry v) (inner_row P) (row P) x) e

  merge_same : 0 < P.states → (R Q : ℕ → ℕ → ℕ) (v x : ℕ) (k : Kids)
      → ((u y : ℕ) → Has u k → y < P.states → R u y ≡ Q u y)
      → merge k (P.entry v) (inner_row P) R x ≡ merge k (P.entry v) (inner_row P) Q x
  merge_same pos R Q v x tip h = refl
  merge_same pos R Q v x (two a b) h =
      inner_same P pos (R a) (R b) (Q a) (Q b) (λ y. h a y (inl refl)) (λ y. h b y (inr refl)) x

  -- and nothing else is
  pub rows_unique : 0 < P.states → (R Q : ℕ → ℕ → ℕ) → IsRows P R → IsRows P Q
      → (v x : ℕ) → v ≤ P.last → x < P.states → R v x ≡ Q v x
  rows_unique pos R Q h_r h_q v x h k = strong (λ v. v ≤ P.last → (x : ℕ) → x < P.states → R v x ≡ Q v x) go v h x k
    where
      go : (v : ℕ) → ((u : ℕ) → u < v → u ≤ P.last → (x : ℕ) → x < P.states → R u x ≡ Q u x)
          → v ≤ P.last → (x : ℕ) → x < P.states → R v x ≡ Q v x
      go v ih h x k =
          h_r v x h k
          ∙ merge_same pos R Q v x (P.kids v) (λ u y c m. let b = tree.below h c in ih u b (omega arith) y m)
          ∙ sym (h_q v x h k)

-- A column that sits in another has its rows, labels and sets, along the map of nodes.
-- Assumes nothing.
use mathlib.Core.Logic.{inl, inr}
use mathlib.Core.Path.{◌≡◌, refl, ap, ap₂, sym, ◌∙◌, subst}
use Prim.Native.Nat.{ℕ, ◌≤◌, ◌<◌}
use native.Mathlib.Omega.{arith}
use lib.Dec.{eqb}
use Rattle.parsimony.specs.Barred.{plus}
use Rattle.parsimony.specs.Column.{Column}
use Rattle.parsimony.specs.Label.{choose, label_from, free_start}
use Rattle.parsimony.specs.Least.{low, least}
use Rattle.parsimony.specs.NodeSet.{child_set, reaches, sets_from, free_set}
use Rattle.parsimony.specs.Row.{IsRows, inner_row, up, row, score}
use Rattle.parsimony.specs.StateSet.{holds, gather}
use Rattle.parsimony.specs.Test.{both, some}
use Rattle.parsimony.specs.Tie.{TieRule}
use Rattle.parsimony.specs.Tree.{Kids, tip, two, Has, merge, Rooted}
use Rattle.parsimony.proofs.LeastLaws.{least_same, low_same}
use Rattle.parsimony.proofs.RowLaws.{row_inner, row_rows, rows_unique}
use Rattle.parsimony.proofs.StateCountLaws.{gather_same}
use Rattle.parsimony.proofs.TreeLaws.{descend_meets}
use Rattle.parsimony.proofs.Unique.{choose_same, child_same, labels_unique, sets_unique}
use Rattle.cuts.specs.Sits.{Sits}

-- two columns have the same score, free starts and root's row
pub record SameTop (A B : Column) : Type 0 where
  pub score : score A ≡ score B
  pub start : free_start A ≡ free_start B
  pub free : free_set A ≡ free_set B
  pub root : (x : ℕ) → x < A.states → row A A.last x ≡ row B B.last x

-- the row step looks at nothing of a column but its states and costs
inner_alike : (A B : Column) → A.states ≡ B.states → A.cost ≡ B.cost → (a b : ℕ → ℕ) (x : ℕ)
    → inner_row A a b x ≡ inner_row B a b x
unfolding inner_row up
inner_alike A B e f a b x =
    ap₂ (λ s (cost : ℕ → ℕ → ℕ). plus (least (λ y. plus (cost x y) (a y)) s) (least (λ y. plus (cost x y) (b y)) s)) e f

-- nor does the choosing step
choose_alike : (rule : ℕ → ℕ → (ℕ → ℕ) → ℕ) (A B : Column) → A.states ≡ B.states → A.cost ≡ B.cost
    → (r : ℕ → ℕ) (x : ℕ) → choose rule A r x ≡ choose rule B r x
unfolding choose
choose_alike rule A B e f r x = ap₂ (λ s (cost : ℕ → ℕ → ℕ). rule s x (λ y. plus (cost x y) (r y))) e f

-- nor the set step
child_alike : (A B : Column) → A.states ≡ B.states → A.cost ≡ B.cost → (r : ℕ → ℕ) (w : ℕ)
    → child_set A r w ≡ child_set B r w
unfolding child_set reaches up
child_alike A B e f r w =
    ap₂ (λ s (cost : ℕ → ℕ → ℕ). gather
    (λ y. some (λ x. both (holds w x) (eqb (plus (cost x y) (r y)) (least (λ z. plus (cost x z) (r z)) s))) s) s) e f

-- a child goes to a child
has_along : (A B : Column) (ρ : ℕ → ℕ) → Sits A B ρ → (p u : ℕ) → p ≤ A.last → Has u (A.kids p)
    → Has (ρ u) (B.kids (ρ p))
has_along A B ρ sits p u h c = go (A.kids p) refl c
  where
    go : (k : Kids) → A.kids p ≡ k → Has u k → Has (ρ u) (B.kids (ρ p))
    go tip e c = absurd c
    go (two a b) e (inl q) = subst (Has (ρ u)) (sym (sits.inner p a b h e)) (inl (ap ρ q))
    go (two a b) e (inr q) = subst (Has (ρ u)) (sym (sits.inner p a b h e)) (inr (ap ρ q))

module _ (A B : Column) (ρ : ℕ → ℕ) (sits : Sits A B ρ) (tree_a : Rooted A.last A.kids)
    (tree_b : Rooted B.last B.kids) (pos : 0 < A.states) where
  along_rows : IsRows A (λ v. row B (ρ v))
  unfolding inner_row
  along_rows v x h k = go (A.kids v) refl
    where
      go : (ks : Kids) → A.kids v ≡ ks → row B (ρ v) x ≡ merge ks (A.entry v) (inner_row A) (λ u. row B (ρ u)) x
      go tip e = sym (sits.tips v x h e k)
      go (two a b) e =
          row_inner B tree_b (ρ v) (ρ a) (ρ b) x (sits.inside v h) (sits.inner v a b h e)
          ∙ sym (inner_alike A B sits.states sits.cost (row B (ρ a)) (row B (ρ b)) x)

  -- its rows are the other's
  pub sits_rows : (v x : ℕ) → v ≤ A.last → x < A.states → row A v x ≡ row B (ρ v) x
  sits_rows = rows_unique A tree_a pos (row A) (λ v. row B (ρ v)) (row_rows A tree_a) along_rows

  -- its labels, from the state that the other gives its root, are the other's
  pub sits_labels : (rule : ℕ → ℕ → (ℕ → ℕ) → ℕ) → TieRule rule → (x v : ℕ) → v ≤ A.last
      → label_from rule B x (ρ v) ≡ label_from rule A (label_from rule B x (ρ A.last)) v
  unfolding label_from
  sits_labels rule ties x v h =
      let l = label_from rule B x in
      let down = descend_meets B.last B.kids tree_b (λ u. choose rule B (row B u)) x in
      labels_unique A tree_a pos (row A) (row_rows A tree_a) rule ties (l (ρ A.last)) (λ v. l (ρ v))
      (record {
        root = refl;
        edge = λ {p} {u} hp c. down.edge (sits.inside p hp) (has_along A B ρ sits p u hp c)
            ∙ sym (choose_alike rule A B sits.states sits.cost (row B (ρ u)) (l (ρ p)))
            ∙ sym (choose_same rule ties A (row A u) (row B (ρ u))
            (λ y k. let b = tree_a.below hp c in sits_rows u y (omega arith) k) (l (ρ p)));
      }) v h

  -- and so are its sets
  pub sits_sets : (w v : ℕ) → v ≤ A.last → sets_from B w (ρ v) ≡ sets_from A (sets_from B w (ρ A.last)) v
  unfolding sets_from
  sits_sets w v h =
      let S = sets_from B w in
      let down = descend_meets B.last B.kids tree_b (λ u. child_set B (row B u)) w in
      sets_unique A tree_a pos (row A) (row_rows A tree_a) (S (ρ A.last)) (λ v. S (ρ v))
      (record {
        root = refl;
        edge = λ {p} {u} hp c. down.edge (sits.inside p hp) (has_along A B ρ sits p u hp c)
            ∙ sym (child_alike A B sits.states sits.cost (row B (ρ u)) (S (ρ p)))
            ∙ sym (child_same A pos (row A u) (row B (ρ u))
            (λ y k. let b = tree_a.below hp c in sits_rows u y (omega arith) k) (S (ρ p)));
      }) v h

  -- where its root goes to the other's root, the scores and the free starts are the same
  module _ (top : ρ A.last ≡ B.last) where
    top_rows : (x : ℕ) → x < A.states → row A A.last x ≡ row B B.last x
    top_rows x h = sits_rows A.last x (omega arith) h ∙ ap (λ v. row B v x) top

    same_score : score A ≡ score B
    unfolding score
    same_score =
        least_same (row A A.last) (row B B.last) A.states pos top_rows
        ∙ ap (least (row B B.last)) sits.states

    same_start : free_start A ≡ free_start B
    unfolding free_start
    same_start =
        low_same (row A A.last) (row B B.last) A.states top_rows ∙ ap (low (row B B.last)) sits.states

    same_free : free_set A ≡ free_set B
    unfolding free_set
    same_free =
        gather_same _ _ A.states (λ x h. ap₂ eqb (top_rows x h) same_score)
        ∙ ap (gather (λ x. eqb (row B B.last x) (score B))) sits.states

    pub sits_top : SameTop A B
    sits_top = record { score = same_score; start = same_start; free = same_free; root = top_rows }

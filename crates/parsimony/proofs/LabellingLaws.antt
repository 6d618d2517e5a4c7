-- Laws of labellings: only the states of the nodes 0 to last count, so a labelling is a list of states.
-- Assumes nothing.
use mathlib.Core.List.{List, [], ◌∷◌}
use mathlib.Core.Logic.{inl, inr}
use mathlib.Core.Path.{◌≡◌, refl, ap, ap₂, ◌∙◌, subst}
use Prim.Native.Nat.{ℕ, zero, suc, ◌+◌, ◌≤◌, ◌<◌}
use native.Mathlib.Nat.{not-suc-le-zero}
use native.Mathlib.Omega.{arith}
use lib.ListN.{length, get_or}
use Rattle.parsimony.specs.Column.{Column}
use Rattle.parsimony.specs.Labelling.{Agrees, cost_below, cost_of}
use Rattle.parsimony.specs.Tree.{Kids, tip, two, Has, Rooted}
use Rattle.parsimony.proofs.Sums.{sum_same}

-- the list of the first n values of a function
tabulate : (ℕ → ℕ) → ℕ → List ℕ
tabulate f zero = []
tabulate f (suc n) = f 0 ∷ tabulate (λ i. f (suc i)) n

tabulate_length : (f : ℕ → ℕ) (n : ℕ) → length (tabulate f n) ≡ n
unfolding tabulate
tabulate_length f zero = refl
tabulate_length f (suc n) = ap suc (tabulate_length (λ i. f (suc i)) n)

tabulate_at : (f : ℕ → ℕ) (n v : ℕ) → v < n → get_or (tabulate f n) v 0 ≡ f v
unfolding tabulate
tabulate_at f zero v h = absurd (not-suc-le-zero h)
tabulate_at f (suc n) zero h = refl
tabulate_at f (suc n) (suc v) h = tabulate_at (λ i. f (suc i)) n v (omega arith)

module _ (P : Column) (tree : Rooted P.last P.kids) where
  -- a labelling agrees with the tips where one with the same states at the nodes 0 to last does
  pub labelling_same_agrees : (l m : ℕ → ℕ) → ((v : ℕ) → v ≤ P.last → l v ≡ m v) → Agrees P l → Agrees P m
  labelling_same_agrees l m same agrees =
      record {
        states = λ v h. subst (λ x. x < P.states) (same v h) (agrees.states v h);
        tips = λ v h e b. agrees.tips v h e (ap (P.entry v) (same v h) ∙ b);
      }

  -- two labellings with the same states at the nodes 0 to last cost the same
  pub labelling_same_cost : (l m : ℕ → ℕ) → ((v : ℕ) → v ≤ P.last → l v ≡ m v) → cost_of P l ≡ cost_of P m
  unfolding cost_of
  labelling_same_cost l m same =
      sum_same _ _ (suc P.last)
      (λ v h. at_kids v (P.kids v) (same v (omega arith))
      (λ u c. let low = tree.below {p = v} (omega arith) c in same u (omega arith)))
    where
      at_kids : (v : ℕ) (k : Kids) → l v ≡ m v → ((u : ℕ) → Has u k → l u ≡ m u) → cost_below P l v k ≡ cost_below P m v k
      at_kids v tip e h = ap (P.entry v) e
      at_kids v (two a b) e h = ap₂ ◌+◌ (ap₂ P.cost e (h a (inl refl))) (ap₂ P.cost e (h b (inr refl)))

  -- the states that a labelling gives the nodes 0 to last are a list, one for each node
  pub labelling_list : (l : ℕ → ℕ)
      → (xs : List ℕ) × (length xs ≡ suc P.last) × ((v : ℕ) → v ≤ P.last → get_or xs v 0 ≡ l v)
  labelling_list l =
      let n = suc P.last in
      (tabulate l n, tabulate_length l n, λ v h. tabulate_at l n v (omega arith))

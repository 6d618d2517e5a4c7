-- Agreement with the tips and the cost of a labelling in the paper's words, by the kind of each tip.
-- Assumes nothing.
use Rattle.std.specs.Prelude.{List, ◌≡◌, ℕ, ◌+◌, ◌<◌, length}
use Rattle.parsimony.specs.Barred.{barred}
use Rattle.parsimony.specs.Column.{cost_at, cell_at, handed_at}
use Rattle.parsimony.specs.StateSet.{Member}
use Rattle.parsimony.specs.Sum.{sum}
use Rattle.parsimony.specs.Table.{symbol, handed, Node, leaf, inner, node_at, tips}

-- the labelling l gives each node a state, at each symbol tip one in its cell, and at each handed tip one that the
-- handed row does not bar
pub record AgreesByKind (left right : List ℕ) (s c : ℕ) (cells entries : List ℕ) (j : ℕ) (l : ℕ → ℕ) : Type 0 where
  pub states : (v : ℕ) → v < length left → l v < s
  pub symbols : (v r : ℕ) → v < length left → node_at left right v ≡ leaf symbol r → Member (cell_at c cells j r) (l v)
  pub handed : (v k : ℕ) → v < length left → node_at left right v ≡ leaf handed k
      → handed_at s (tips handed (node_at left right) (length left)) entries j k (l v) ≡ barred → ⊥

-- what a node adds to the cost, given the cost of a change and each handed row: a symbol tip nothing, a handed tip its
-- row's entry, an inner node its two edges
abbrev pub kind_cost : (ℕ → ℕ → ℕ) → (ℕ → ℕ → ℕ) → (ℕ → ℕ) → ℕ → Node → ℕ
kind_cost cost row l v (leaf symbol r) = 0
kind_cost cost row l v (leaf handed k) = row k (l v)
kind_cost cost row l v (inner a b) = cost (l v) (l a) + cost (l v) (l b)

-- the cost of a labelling in column j: the costs along all edges plus each handed row's entry at that tip's state
unfoldable pub cost_by_kind : List ℕ → List ℕ → ℕ → List ℕ → List ℕ → ℕ → (ℕ → ℕ) → ℕ
unfolding sum cost_at handed_at node_at tips
cost_by_kind left right s costs entries j l =
    let h = tips handed (node_at left right) (length left) in
    sum (λ v. kind_cost (cost_at s costs) (handed_at s h entries j) l v (node_at left right v)) (length left)

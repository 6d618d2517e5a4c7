-- Labellings of a tree: which agree with the tips, what they cost, and which are least.
-- A labelling is a function from node to state of which only the nodes 0 to last are read.
-- Assumes nothing.
use Rattle.std.specs.Prelude.{◌≡◌, ℕ, suc, ◌+◌, ◌<◌, ◌≤◌}
use Rattle.parsimony.specs.Barred.{barred}
use Rattle.parsimony.specs.Column.{Column}
use Rattle.parsimony.specs.Sum.{sum}
use Rattle.parsimony.specs.Tree.{Kids, tip, two}

-- the labelling l gives each node a state and takes at each tip one that the tip's row does not bar
pub record Agrees (P : Column) (l : ℕ → ℕ) : Type 0 where
  pub states : (v : ℕ) → v ≤ P.last → l v < P.states
  pub tips : (v : ℕ) → v ≤ P.last → P.kids v ≡ tip → P.entry v (l v) ≡ barred → ⊥

-- what a node adds to the cost: an inner node its two edges, a tip its row's entry (0 at a symbol tip that agrees)
abbrev pub cost_below : Column → (ℕ → ℕ) → ℕ → Kids → ℕ
cost_below P l v tip = P.entry v (l v)
cost_below P l v (two a b) = P.cost (l v) (l a) + P.cost (l v) (l b)

-- the cost of a labelling: the costs along all edges plus each handed row's entry at that tip's state
unfoldable pub cost_of : Column → (ℕ → ℕ) → ℕ
unfolding sum
cost_of P l = sum (λ v. cost_below P l v (P.kids v)) (suc P.last)

-- the labelling l agrees with the tips, and no labelling that agrees costs less
pub record LeastLabelling (P : Column) (l : ℕ → ℕ) : Type 0 where
  pub agrees : Agrees P l
  pub least : (other : ℕ → ℕ) → Agrees P other → cost_of P l ≤ cost_of P other

-- the same where only labellings with the root in state x compete
pub record LeastFrom (P : Column) (x : ℕ) (l : ℕ → ℕ) : Type 0 where
  pub agrees : Agrees P l
  pub root : l P.last ≡ x
  pub least : (other : ℕ → ℕ) → Agrees P other → other P.last ≡ x → cost_of P l ≤ cost_of P other

-- the score: some labelling that agrees with the tips costs k, and none costs less
pub record IsScore (P : Column) (k : ℕ) : Type 0 where
  pub reached : (l : ℕ → ℕ) × Agrees P l × (cost_of P l ≡ k)
  pub least : (l : ℕ → ℕ) → Agrees P l → k ≤ cost_of P l

-- The node that breaks a tree rule: which node is at fault, and which fault is carried.
-- Assumes nothing.
use Rattle.std.specs.Prelude.{◌≡◌, ℕ, suc, ◌<◌, ◌≤◌}
use Rattle.parsimony.specs.Table.{Node, leaf, inner, tips, row_uses, child_uses}

-- An inner node keeps its rules if its children are different, are below it, and are named by no lower node; a tip if
-- its row's number is below the number of tips of its kind and no lower node has that row.
abbrev pub KeepsEntries : ℕ → (ℕ → Node) → ℕ → Node → Type 0
KeepsEntries n node v (leaf k r) = (r < tips k node n) × (row_uses k node v r ≡ 0)
KeepsEntries n node v (inner a b) =
    (a < v) × (b < v) × (a ≡ b → ⊥) × (child_uses node v a ≡ 0) × (child_uses node v b ≡ 0)

-- Node v of n keeps the rules: its entries do, and it is the last or some node names it as a child. So a second use of
-- a child or a row is the higher user's fault, and the entries of a node at fault count as uses.
pub record Keeps (n : ℕ) (node : ℕ → Node) (v : ℕ) : Type 0 where
  pub entries : KeepsEntries n node v (node v)
  pub used : suc v < n → 1 ≤ child_uses node n v

-- v is the lowest node at fault
pub record LowestFault (n : ℕ) (node : ℕ → Node) (v : ℕ) : Type 0 where
  pub within : v < n
  pub breaks : Keeps n node v → ⊥
  pub first : (u : ℕ) → u < v → Keeps n node u

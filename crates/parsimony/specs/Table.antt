-- The tree table: two lists of n numbers, and what makes them legal.
-- Assumes nothing.
use Rattle.std.specs.Prelude.{List, ◌≡◌, ℕ, suc, ◌-◌, ◌%◌, ◌<◌, ◌≤◌, eqb, ltb, length, get_or}
use Rattle.parsimony.specs.Sum.{sum}
use Rattle.parsimony.specs.Test.{at, pick}
use Rattle.parsimony.specs.Tree.{Kids, tip, two, Has, uses}

-- where a tip's row stands: in the matrix (a symbol tip) or among the handed rows (a handed tip)
pub data Kind : Type 0 where
  symbol : Kind
  handed : Kind

-- what the table says of a node: a tip with its kind and the number of its row, or an inner node with its two children
pub data Node : Type 0 where
  leaf : Kind → ℕ → Node
  inner : ℕ → ℕ → Node

-- a tip's right entry: the number of its matrix row, or 32,768 + k for handed row k
unfoldable pub leaf_at : ℕ → Node
unfolding pick
leaf_at e = pick (ltb e 32768) (leaf symbol e) (leaf handed (e - 32768))

-- node v of the table: 65,535 in the left list marks a tip
unfoldable pub node_at : List ℕ → List ℕ → ℕ → Node
unfolding pick leaf_at
node_at left right v =
    pick (eqb (get_or left v 0) 65535) (leaf_at (get_or right v 0)) (inner (get_or left v 0) (get_or right v 0))

-- the children of a node
abbrev pub kids_of : Node → Kids
kids_of (leaf k r) = tip
kids_of (inner a b) = two a b

-- the children of node v of the table
abbrev pub kids_at : List ℕ → List ℕ → ℕ → Kids
kids_at left right v = kids_of (node_at left right v)

-- m where the two kinds are the same, else 0
abbrev pub alike : Kind → Kind → ℕ → ℕ
alike symbol symbol m = m
alike symbol handed m = 0
alike handed symbol m = 0
alike handed handed m = m

-- 1 where the node is a tip of kind k, else 0
abbrev pub is_tip : Kind → Node → ℕ
is_tip k (leaf j r) = alike k j 1
is_tip k (inner a b) = 0

-- 1 where the node is a tip with row r of kind k, else 0
abbrev pub names : Kind → ℕ → Node → ℕ
names k r (leaf j q) = alike k j (at r 1 q)
names k r (inner a b) = 0

-- how many of the nodes 0 to n-1 are tips of kind k: t symbol tips and h handed tips over the whole table
unfoldable pub tips : Kind → (ℕ → Node) → ℕ → ℕ
unfolding sum
tips k node n = sum (λ p. is_tip k (node p)) n

-- how many of the nodes 0 to n-1 have row r of kind k
unfoldable pub row_uses : Kind → (ℕ → Node) → ℕ → ℕ → ℕ
unfolding sum at
row_uses k node n r = sum (λ p. names k r (node p)) n

-- how many of the nodes 0 to n-1 name u as a child
abbrev pub child_uses : (ℕ → Node) → ℕ → ℕ → ℕ
child_uses node n u = uses (λ p. kids_of (node p)) n u

-- The rules of a tree of n nodes: an inner node has two different children, both numbered below it; each node but the
-- last is the child of exactly one; with t symbol tips and h handed tips, the matrix rows 0 to t-1 and the handed rows
-- 0 to h-1 each occur once.
pub record TreeRules (n : ℕ) (node : ℕ → Node) : Type 0 where
  pub below : {v u : ℕ} → v < n → Has u (kids_of (node v)) → u < v
  pub apart : {v a b : ℕ} → v < n → node v ≡ inner a b → a ≡ b → ⊥
  pub child : {u : ℕ} → suc u < n → child_uses node n u ≡ 1
  pub rows : (k : Kind) (r : ℕ) → r < tips k node n → row_uses k node n r ≡ 1

-- the two lists have the same length n, and n is odd, 1 to 1,023
pub record SizeRules (left right : List ℕ) : Type 0 where
  pub equal : length left ≡ length right
  pub odd : length left % 2 ≡ 1
  pub most : length left ≤ 1023

-- a legal table
pub record Legal (left right : List ℕ) : Type 0 where
  pub size : SizeRules left right
  pub tree : TreeRules (length left) (node_at left right)

-- Trees whose nodes are numbers, each child numbered below its parent; work from the tips up and from the root down.
-- Assumes nothing.
use Rattle.std.specs.Prelude.{Bool, true, false, ◌⊎◌, ◌≡◌, ℕ, zero, suc, ◌+◌, ◌<◌, ◌≤◌, eqb}
use Rattle.parsimony.specs.Sum.{sum}
use Rattle.parsimony.specs.Test.{at, pick}

-- what stands below a node: nothing (a tip), or two children, left and right
pub data Kids : Type 0 where
  tip : Kids
  two : ℕ → ℕ → Kids

-- u is one of the children
abbrev pub Has : ℕ → Kids → Type 0
Has u tip = ⊥
Has u (two a b) = (u ≡ a) ⊎ (u ≡ b)

-- the sum of f over the children
abbrev pub each : (ℕ → ℕ) → Kids → ℕ
each f tip = 0
each f (two a b) = f a + f b

-- how often the nodes 0 to n-1 name u as a child
unfoldable pub uses : (ℕ → Kids) → ℕ → ℕ → ℕ
unfolding at sum
uses kids n u = sum (λ p. each (at u 1) (kids p)) n

-- The nodes 0 to last are a tree with root last: a child is numbered below its parent, and each node but the last is a
-- child exactly once.
pub record Rooted (last : ℕ) (kids : ℕ → Kids) : Type 0 where
  pub below : {p u : ℕ} → p ≤ last → Has u (kids p) → u < p
  pub once : {u : ℕ} → u < last → uses kids (suc last) u ≡ 1

-- an inner node's value from its children's two; a tip's own
abbrev pub merge {ℓ} : {A : Type ℓ} → Kids → A → (A → A → A) → (ℕ → A) → A
merge tip own join value = own
merge (two a b) own join value = join (value a) (value b)

-- the value of a node, from the tips up, with levels enough to reach them
unfoldable pub ascend_in {ℓ} : {A : Type ℓ} → (ℕ → Kids) → (ℕ → A) → (A → A → A) → ℕ → ℕ → A
ascend_in kids own join zero v = own v
ascend_in kids own join (suc levels) v = merge (kids v) (own v) join (λ u. ascend_in kids own join levels u)

-- Work from the tips up: a tip v has the value own v, an inner node what join makes of its left and its right child's.
unfoldable pub ascend {ℓ} : {A : Type ℓ} → (ℕ → Kids) → (ℕ → A) → (A → A → A) → ℕ → A
unfolding ascend_in
ascend kids own join v = ascend_in kids own join (suc v) v

-- the test that u is one of the children
unfoldable pub has : ℕ → Kids → Bool
unfolding pick
has u tip = false
has u (two a b) = pick (eqb u a) true (eqb u b)

-- the node among 0 to n-1 that has u as a child
unfoldable pub parent : (ℕ → Kids) → ℕ → ℕ → ℕ
unfolding pick has
parent kids zero u = 0
parent kids (suc n) u = pick (has u (kids n)) n (parent kids n u)

-- the value of a node, from the root down, with levels enough to reach the root
unfoldable pub descend_in : ℕ → (ℕ → Kids) → (ℕ → ℕ → ℕ) → ℕ → ℕ → ℕ → ℕ
unfolding parent
descend_in last kids give start zero v = start
descend_in last kids give start (suc levels) v =
    elim (eqb v last) [
      | true ↦ start
      | false ↦ give v (descend_in last kids give start levels (parent kids (suc last) v))
    ]

-- Work from the root down: the root, node last, has the value start, and a child u of a node with value x has give u x.
unfoldable pub descend : ℕ → (ℕ → Kids) → (ℕ → ℕ → ℕ) → ℕ → ℕ → ℕ
unfolding descend_in
descend last kids give start v = descend_in last kids give start (suc last) v

-- l is such work: its value at the root is start, and on each edge the child has what give makes of its parent's.
pub record Descent (last : ℕ) (kids : ℕ → Kids) (give : ℕ → ℕ → ℕ) (start : ℕ) (l : ℕ → ℕ) : Type 0 where
  pub root : l last ≡ start
  pub edge : {p u : ℕ} → p ≤ last → Has u (kids p) → l u ≡ give u (l p)

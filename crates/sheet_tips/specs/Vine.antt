-- A tree as a text has it: names and pairs.
-- Assumes nothing.
use Rattle.std.specs.Prelude.{ℕ, suc, ◌+◌, ltb}
use Rattle.parsimony.specs.Test.{at, pick}

-- a name, by the number of its row, or a pair of trees, the first written first
pub data Vine : Type 0 where
  tip : ℕ → Vine
  pair : Vine → Vine → Vine

-- how many nodes the tree has: one for each name and one for each pair
unfoldable pub vine_nodes : Vine → ℕ
vine_nodes (tip r) = 1
vine_nodes (pair a b) = suc (vine_nodes a + vine_nodes b)

-- how often the name of row r occurs
unfoldable pub occurs : ℕ → Vine → ℕ
unfolding at
occurs r (tip q) = at r 1 q
occurs r (pair a b) = occurs r a + occurs r b

-- the greater of two numbers
unfoldable pub greater : ℕ → ℕ → ℕ
unfolding pick
greater a b = pick (ltb a b) b a

-- how deep the brackets nest
unfoldable pub deep : Vine → ℕ
unfolding greater
deep (tip r) = 0
deep (pair a b) = suc (greater (deep a) (deep b))

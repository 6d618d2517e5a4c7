-- The tree table of a tree as text: a node gets its number when its text ends, and the first written is left.
-- Assumes nothing.
use Rattle.std.specs.Prelude.{List, [], ◌∷◌, ◌++◌, ℕ, ◌+◌, ◌-◌}
use Rattle.sheet_tips.specs.Vine.{Vine, tip, pair, vine_nodes}

-- the left entries of a tree's nodes, the first of which has the number n: 65,535 for a name, the left child for a pair
unfoldable pub lefts : Vine → ℕ → List ℕ
unfolding vine_nodes
lefts (tip r) n = 65535 ∷ []
lefts (pair a b) n = lefts a n ++ (lefts b (n + vine_nodes a) ++ (n + vine_nodes a - 1) ∷ [])

-- their right entries: a name's row, a pair's right child
unfoldable pub rights : Vine → ℕ → List ℕ
unfolding vine_nodes
rights (tip r) n = r ∷ []
rights (pair a b) n = rights a n ++ (rights b (n + vine_nodes a) ++ (n + vine_nodes a + vine_nodes b - 1) ∷ [])

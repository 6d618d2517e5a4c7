-- How tree text is read: a tree is a name or `(` tree `,` tree `)`.
-- Assumes nothing.
use Rattle.std.specs.Prelude.{List, eqb, get_or}
use Prim.Native.Char.{code}
use Prim.Native.Nat.{ℕ, zero, suc, ◌+◌, ◌*◌}
use Rattle.parsimony.specs.Test.{pick, both}
use Rattle.sheet_tips.specs.Marks.{unmarked}
use Rattle.sheet_tips.specs.Tip.{Parsed, got, no_tree, tip_of}
use Rattle.sheet_tips.specs.Vine.{Vine, pair, vine_nodes}

-- what follows from a tree; no tree otherwise
unfoldable pub on_parsed : Parsed → (Vine → ℕ → List ℕ → Parsed) → Parsed
on_parsed (got vine next marks) go = go vine next marks
on_parsed no_tree go = no_tree

-- what follows where the byte at a place is this one; no tree otherwise
unfoldable pub on_byte : List ℕ → ℕ → ℕ → Parsed → Parsed
unfolding pick
on_byte sheet byte i go = pick (eqb (get_or sheet i 0) byte) go no_tree

module _ (sheet names : List ℕ) (t : ℕ) where
  -- a bracketed pair, its trees read by sub
  unfoldable pub pair_by : (List ℕ → ℕ → Parsed) → List ℕ → ℕ → Parsed
  unfolding on_parsed on_byte
  pair_by sub marks i =
      on_parsed (sub marks (i + 1))
      (λ a k marks₁. on_byte sheet (code ",") k
      (on_parsed (sub marks₁ (k + 1)) (λ b m marks₂. on_byte sheet (code ")") m (got (pair a b) (m + 1) marks₂))))

  -- a tree: a pair where it starts with a bracket, else a name
  unfoldable pub tree_by : (List ℕ → ℕ → Parsed) → List ℕ → ℕ → Parsed
  unfolding pick tip_of
  tree_by pair_at marks i = pick (eqb (get_or sheet i 0) (code "(")) (pair_at marks i) (tip_of sheet names t marks i)

  -- a pair whose brackets nest at most so deep
  unfoldable pub pair_of : ℕ → List ℕ → ℕ → Parsed
  unfolding tree_by pair_by
  pair_of zero marks i = no_tree
  pair_of (suc depth) marks i = pair_by (tree_by (pair_of depth)) marks i

  -- a tree whose brackets nest at most so deep
  unfoldable pub tree_of : ℕ → List ℕ → ℕ → Parsed
  unfolding tree_by pair_of
  tree_of depth marks i = tree_by (pair_of depth) marks i

  -- the tree line from a place up to its end: a tree, at most 128 deep and with each of the t names once, and then `;`
  unfoldable pub line_tree : ℕ → ℕ → Parsed
  unfolding pick both on_parsed on_byte tree_of unmarked vine_nodes
  line_tree at end =
      on_parsed (tree_of 128 (unmarked 512) at)
      (λ vine e marks. on_byte sheet (code ";") e
      (pick (both (eqb (e + 1) end) (eqb (vine_nodes vine + 1) (2 * t))) (got vine e marks) no_tree))

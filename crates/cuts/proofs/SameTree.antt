-- Tables with the same tree have rests with the same tree, whatever rows are sent up.
-- Assumes nothing.
use mathlib.Core.List.{List, []}
use mathlib.Core.Path.{◌≡◌, refl, ap₂, sym, ◌∙◌, fun_ext}
use Prim.Native.Nat.{ℕ}
use lib.ListN.{length}
use Rattle.parsimony.specs.Filled.{list_of}
use Rattle.parsimony.specs.Table.{symbol, handed, Node, leaf, inner}
use Rattle.promises.specs.Input.{Input, input}
use Rattle.cuts.specs.Cut.{branch, rest, rest_node, in_rest}
use Rattle.cuts.specs.Nodes.{no_rows}
use Rattle.cuts.specs.Numbering.{renumber, original}
use Rattle.cuts.specs.Piece.{
  Choice,
  kept_row,
  kept_handed,
  renumbered,
  left_entry,
  right_entry,
  piece_node,
  node_new,
  kept_nodes,
}

-- J has the tree of I
pub record SameTree (I J : Input) : Type 0 where
  pub left : J.left ≡ I.left
  pub right : J.right ≡ I.right

-- a table that has no more than a tree, and its rest
abbrev bare : List ℕ → List ℕ → Input
bare left right = input left right 0 [] 0 [] []

abbrev bare_rest : ℕ → List ℕ → List ℕ → Choice
bare_rest v left right = in_rest (bare left right) v no_rows

-- a node of a rest depends on no more of the table than its tree
module _ (I : Input) (v : ℕ) (up : ℕ → ℕ → ℕ) where
  renumbered_bare : (u : ℕ) (x : Node)
      → renumbered I (in_rest I v up) u x ≡ renumbered (bare I.left I.right) (bare_rest v I.left I.right) u x
  unfolding branch kept_row kept_handed
  renumbered_bare u (leaf symbol r) = refl
  renumbered_bare u (leaf handed k) = refl
  renumbered_bare u (inner a b) = refl

  new_bare : node_new I (in_rest I v up) ≡ node_new (bare I.left I.right) (bare_rest v I.left I.right)
  unfolding branch node_new piece_node
  new_bare = fun_ext (λ i. renumbered_bare (rest_node I v up i) ((in_rest I v up).node (rest_node I v up i)))

module _ (I J : Input) (same : SameTree I J) (v : ℕ) (up up' : ℕ → ℕ → ℕ) where
  -- the rests keep the same nodes
  pub kept_same : (in_rest J v up').keep ≡ (in_rest I v up).keep
  unfolding branch
  kept_same = ap₂ (λ left right. (bare_rest v left right).keep) same.left same.right

  -- with the same numbers
  pub node_same : rest_node J v up' ≡ rest_node I v up
  unfolding piece_node
  node_same = ap₂ (λ keep left i. original keep (length left) i) kept_same same.left

  long_same : kept_nodes J (in_rest J v up') ≡ kept_nodes I (in_rest I v up)
  long_same = ap₂ (λ keep left. renumber keep (length left)) kept_same same.left

  new_same : node_new J (in_rest J v up') ≡ node_new I (in_rest I v up)
  new_same =
      new_bare J v up'
      ∙ ap₂ (λ left right. node_new (bare left right) (bare_rest v left right)) same.left same.right
      ∙ sym (new_bare I v up)

  -- The rests have the same tree.
  pub rest_same : SameTree (rest I v up) (rest J v up')
  rest_same =
      record {
        left = ap₂ (λ n f. list_of n (λ i. left_entry (f i))) long_same new_same;
        right = ap₂ (λ n f. list_of n (λ i. right_entry (f i))) long_same new_same;
      }

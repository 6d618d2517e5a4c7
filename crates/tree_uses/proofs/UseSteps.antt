-- The counts of uses over the nodes of a table, of rows and of children, at one node more.
-- Assumes nothing.
use mathlib.Core.Path.{◌≡◌}
use Prim.Native.Nat.{ℕ, ◌+◌, ◌*◌, ◌≤◌}
use native.Mathlib.Omega.{arith}
use Rattle.parsimony.specs.Table.{Kind, Node, leaf, inner, kids_of, names, row_uses, child_uses}
use Rattle.parsimony.specs.Test.{at}
use Rattle.parsimony.specs.Tree.{each, uses}
use Rattle.parsimony.proofs.Sums.{sum_zero}
use Rattle.parsimony.proofs.TipLaws.{at_le, names_le}
use Rattle.tree_nodes.proofs.NodeLaws.{sum_next, sum_most}

-- a node names a child at most twice
kids_le : (u : ℕ) (x : Node) → each (at u 1) (kids_of x) ≤ 2
kids_le u (leaf k r) = omega arith
kids_le u (inner a b) = let la = at_le u a in let lb = at_le u b in omega arith

module _ (node : ℕ → Node) where
  -- where there are no nodes no row is used
  pub rows_none : (k : Kind) (r : ℕ) → row_uses k node 0 r ≡ 0
  unfolding row_uses
  rows_none k r = sum_zero (λ p. names k r (node p))

  -- the uses of a row at one node more
  pub rows_next : (k : Kind) (v r : ℕ) → row_uses k node (v + 1) r ≡ row_uses k node v r + names k r (node v)
  unfolding row_uses
  rows_next k v r = sum_next (λ p. names k r (node p)) v

  -- a node uses a row at most once
  pub rows_most : (k : Kind) (n r : ℕ) → row_uses k node n r ≤ n
  unfolding row_uses
  rows_most k n r = let bound = sum_most 1 (λ p. names k r (node p)) n (λ p. names_le k r (node p)) in omega arith

  -- where there are no nodes no child is named
  pub uses_none : (u : ℕ) → child_uses node 0 u ≡ 0
  unfolding uses
  uses_none u = sum_zero (λ p. each (at u 1) (kids_of (node p)))

  -- the uses of a child at one node more
  pub uses_next : (v u : ℕ) → child_uses node (v + 1) u ≡ child_uses node v u + each (at u 1) (kids_of (node v))
  unfolding uses
  uses_next v u = sum_next (λ p. each (at u 1) (kids_of (node p))) v

  -- each node names a child at most twice
  pub uses_most : (n u : ℕ) → child_uses node n u ≤ 2 * n
  unfolding uses
  uses_most n u = sum_most 2 (λ p. each (at u 1) (kids_of (node p))) n (λ p. kids_le u (node p))

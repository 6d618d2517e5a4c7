-- What stands at each node of a piece, and how many tips of each kind it has.
-- Assumes nothing.
use mathlib.Core.List.{List}
use mathlib.Core.Logic.{inl}
use mathlib.Core.Path.{◌≡◌, refl, ap, sym, ◌∙◌, subst}
use Prim.Native.Nat.{ℕ, ◌*◌, ◌<◌}
use native.Mathlib.Omega.{arith}
use lib.ListN.{get_or}
use Rattle.parsimony.specs.Sum.{sum}
use Rattle.parsimony.specs.Table.{
  Kind,
  symbol,
  handed,
  Node,
  leaf,
  inner,
  kids_of,
  node_at,
  is_tip,
  names,
  tips,
  TreeRules,
}
use Rattle.parsimony.specs.Tree.{Has}
use Rattle.parsimony.proofs.FilledLaws.{list_long, list_at}
use Rattle.parsimony.proofs.NodeLaws.{node_symbol, node_handed, node_inner}
use Rattle.parsimony.proofs.Sums.{sum_same, sum_swap, sum_scale}
use Rattle.parsimony.proofs.TipLaws.{rows_in}
use Rattle.promises.specs.CallRules.{Allowed}
use Rattle.promises.specs.Input.{Input, nodes, node_in, tips_in}
use Rattle.cuts.specs.Numbering.{renumber}
use Rattle.cuts.specs.Piece.{
  Choice,
  kept_row,
  kept_handed,
  renumbered,
  left_entry,
  right_entry,
  piece_node,
  node_new,
  kept_nodes,
  kept_rows,
  kept_tips,
  piece,
}
use Rattle.cuts.proofs.NumberLaws.{renumber_mono, renumber_most, sum_kept}
use Rattle.cuts.proofs.KeptLaws.{Stands, keep_same, from, row_marks, row_kept, tips_few}

-- what an entry pair must be for a node to be read from it
abbrev Small : Node → Type 0
Small (leaf symbol r) = r < 32768
Small (leaf handed k) = Unit {0}
Small (inner a b) = a < 65535

-- a node is read from its entries
node_code : (left right : List ℕ) (i : ℕ) (x : Node) → Small x → get_or left i 0 ≡ left_entry x
    → get_or right i 0 ≡ right_entry x → node_at left right i ≡ x
node_code left right i (leaf symbol r) small e f = node_symbol left right i r small e f
node_code left right i (leaf handed k) small e f = node_handed left right i k e f
node_code left right i (inner a b) small e f = node_inner left right i a b (λ p. omega arith) e f

module _ (I : Input) (table : Allowed I) (K : Choice) (top : ℕ) (stands : Stands I K top) where
  abbrev n : ℕ
  n = nodes I

  abbrev t : ℕ
  t = tips_in symbol I

  abbrev tree : TreeRules n (node_in I)
  tree = table.legal.tree

  abbrev m : ℕ
  m = kept_nodes I K

  -- what stands at a node of the piece can be read from its entries
  new_small : (u : ℕ) → u < n → K.keep u ≡ 1 → (x : Node) → K.node u ≡ x → Small (renumbered I K u x)
  new_small u h k (leaf symbol r) e =
      let low = (row_kept I table K top stands u r h k e).0 in
      let most = renumber_most (kept_row I K) t (row_marks I table K top stands) in
      let mono = renumber_mono (kept_row I K) r t (omega arith) in
      let many = table.legal.size.most in
      let few = tips_few I table K top stands in
      omega arith
  new_small u h k (leaf handed r) e = tt
  new_small u h k (inner a b) e =
      let (same, ka, kb) = stands.kids u a b h k e in
      let below = tree.below {v = u} {u = a} h (subst (λ x. Has a (kids_of x)) (sym same) (inl refl)) in
      let mono = renumber_mono K.keep a n (omega arith) in
      let most = renumber_most K.keep n stands.marks in
      let many = table.legal.size.most in
      omega arith

  pub piece_nodes : nodes (piece I K) ≡ m
  piece_nodes = list_long m (λ i. left_entry (node_new I K i))

  -- node i of the piece
  pub piece_node_lem : (i : ℕ) → i < m → node_in (piece I K) i ≡ node_new I K i
  unfolding node_new
  piece_node_lem i h =
      let (inside, kept, same) = from I table K top stands i h in
      node_code (piece I K).left (piece I K).right i (node_new I K i)
      (new_small (piece_node I K i) inside kept (K.node (piece_node I K i)) refl)
      (list_at m (λ i. left_entry (node_new I K i)) i h) (list_at m (λ i. right_entry (node_new I K i)) i h)

  -- a sum over the nodes of the piece is one over the kept nodes
  pub sum_piece : (f : Node → ℕ)
      → sum (λ i. f (node_in (piece I K) i)) m ≡ sum (λ u. K.keep u * f (renumbered I K u (K.node u))) n
  unfolding node_new piece_node
  sum_piece f =
      sum_same _ (λ i. f (node_new I K i)) m (λ i h. ap f (piece_node_lem i h))
      ∙ sum_kept K.keep (λ u. f (renumbered I K u (K.node u))) n stands.marks

  tip_new : (k : Kind) (u : ℕ) (x : Node) → is_tip k (renumbered I K u x) ≡ is_tip k x
  tip_new k u (leaf symbol r) = refl
  tip_new k u (leaf handed r) = refl
  tip_new k u (inner a b) = refl

  -- the tips of each kind are the kept tips of that kind
  pub tips_new : (k : Kind) → tips k (node_in (piece I K)) m ≡ sum (λ u. K.keep u * is_tip k (K.node u)) n
  unfolding tips
  tips_new k =
      sum_piece (is_tip k) ∙ sum_same _ _ n (λ u h. ap (λ z. K.keep u * z) (tip_new k u (K.node u)))

  -- the handed tips of the piece are those kept
  pub piece_handed : tips handed (node_in (piece I K)) m ≡ kept_tips I K
  unfolding kept_handed renumber
  piece_handed = tips_new handed

  -- and its symbol tips are those whose rows are kept
  pub piece_symbol : tips symbol (node_in (piece I K)) m ≡ kept_rows I K
  unfolding kept_row renumber
  piece_symbol =
      tips_new symbol
      ∙ sum_same _ _ n (λ u h. keep_same (K.keep u) _ _ (stands.marks.most u h)
      (λ k. sym (rows_in symbol t (K.node u) (λ r e. (row_kept I table K top stands u r h k e).0)))
      ∙ sym (sum_scale (K.keep u) (λ r. names symbol r (K.node u)) t))
      ∙ sym (sum_swap (λ r u. K.keep u * names symbol r (K.node u)) t n)

-- A piece whose nodes stand as a tree keeps the tree rules, and has the right size.
-- Assumes nothing.
use mathlib.Core.Logic.{inl, inr, ⊎_elim}
use mathlib.Core.Path.{◌≡◌, refl, ap, ap₂, sym, ◌∙◌, subst}
use Prim.Native.Nat.{ℕ, suc, ◌+◌, ◌*◌, ◌-◌, ◌%◌, ◌≤◌, ◌<◌}
use native.Mathlib.Nat.{one-mul}
use native.Mathlib.Omega.{arith}
use lib.ListN.{length}
use Rattle.parsimony.specs.Table.{symbol, handed, Node, leaf, inner, kids_of, child_uses, TreeRules, SizeRules}
use Rattle.parsimony.specs.Test.{at}
use Rattle.parsimony.specs.Tree.{Has, each, uses}
use Rattle.parsimony.proofs.FilledLaws.{list_long}
use Rattle.parsimony.proofs.NodeLaws.{leaf_inner}
use Rattle.parsimony.proofs.Order.{by_lt}
use Rattle.parsimony.proofs.ShapeLaws.{rules_odd}
use Rattle.parsimony.proofs.Sums.{sum_le, sum_before}
use Rattle.parsimony.proofs.TreeLaws.{each_has}
use Rattle.promises.specs.CallRules.{Allowed}
use Rattle.promises.specs.Input.{Input, nodes, node_in}
use Rattle.cuts.specs.Numbering.{renumber}
use Rattle.cuts.specs.Piece.{Choice, renumbered, right_entry, piece_node, node_new, kept_nodes, piece}
use Rattle.cuts.proofs.NumberLaws.{renumber_lt, renumber_mono, renumber_most, renumber_one}
use Rattle.cuts.proofs.KeptLaws.{Stands, keep_le, at_both, from, piece_some}
use Rattle.cuts.proofs.PieceNodes.{piece_nodes, piece_node_lem, sum_piece}
use Rattle.cuts.proofs.PieceRows.{piece_rows}

module _ (I : Input) (table : Allowed I) (K : Choice) (top : ℕ) (stands : Stands I K top) where
  abbrev n : ℕ
  n = nodes I

  abbrev tree : TreeRules n (node_in I)
  tree = table.legal.tree

  abbrev m : ℕ
  m = kept_nodes I K

  -- a kept node's children, as they stand in the piece, name node i where they named its original
  kids_name : (i u : ℕ) → i < m → u < n → K.keep u ≡ 1 → (x : Node) → K.node u ≡ x
      → each (at i 1) (kids_of (renumbered I K u x)) ≡ each (at (piece_node I K i) 1) (kids_of x)
  kids_name i u hi h k (leaf symbol r) e = refl
  kids_name i u hi h k (leaf handed r) e = refl
  kids_name i u hi h k (inner a b) e =
      let (same, ka, kb) = stands.kids u a b h k e in
      let (inside, kept, number) = from I table K top stands i hi in
      let one : (w : ℕ) → K.keep w ≡ 1 → at i 1 (renumber K.keep w) ≡ at (piece_node I K i) 1 w =
      λ w kw. at_both i (piece_node I K i) (renumber K.keep w) w
      (λ p. renumber_one K.keep (piece_node I K i) w kept kw (number ∙ p))
      (λ p. sym number ∙ ap (renumber K.keep) p) in
      ap₂ ◌+◌ (one a ka) (one b kb)

  -- each node of the piece but the last is a child of exactly one
  piece_child : (i : ℕ) → suc i < m → child_uses (node_in (piece I K)) m i ≡ 1
  unfolding uses
  piece_child i h =
      let (inside, kept, number) = from I table K top stands i (omega arith) in
      let (inside', kept', number') = from I table K top stands (suc i) h in
      let w = piece_node I K i in
      let low : w < top = by_lt w top (λ k. k)
      (λ k. absurd (let most = stands.most (piece_node I K (suc i)) inside' kept' in
      let mono = renumber_mono K.keep (piece_node I K (suc i)) w (omega arith) in omega arith)) in
      let (p, hp, kp, c) = stands.parent w low kept in
      let f : ℕ → ℕ = λ u. K.keep u * each (at i 1) (kids_of (renumbered I K u (K.node u))) in
      let whole = sum_piece I table K top stands (λ x. each (at i 1) (kids_of x)) in
      let term : f p ≡ each (at w 1) (kids_of (K.node p)) =
      ap₂ ◌*◌ kp (kids_name i p (omega arith) hp kp (K.node p) refl) ∙ one-mul _ in
      let some = each_has w (kids_of (K.node p)) c in
      let part = sum_before f n p hp in
      let once = tree.child {u = w} (let b = stands.inside in omega arith) in
      let most = sum_le f (λ u. each (at w 1) (kids_of (node_in I u))) n
      (λ u hu. keep_le (K.keep u) _ _ (stands.marks.most u hu)
      (λ k. less i u (omega arith) hu k (K.node u) refl)) in
      omega arith
    where
      less : (i u : ℕ) → i < m → u < n → K.keep u ≡ 1 → (x : Node) → K.node u ≡ x
          → each (at i 1) (kids_of (renumbered I K u x)) ≤ each (at (piece_node I K i) 1) (kids_of (node_in I u))
      less i u hi h k (leaf symbol r) e = omega arith
      less i u hi h k (leaf handed r) e = omega arith
      less i u hi h k (inner a b) e =
          let name = kids_name i u hi h k (inner a b) e in
          let same = ap (λ x. each (at (piece_node I K i) 1) (kids_of x)) (stands.kids u a b h k e).0 in
          omega arith

  new_below : (i u : ℕ) → i < m → (x : Node) → K.node (piece_node I K i) ≡ x
      → Has u (kids_of (renumbered I K (piece_node I K i) x)) → u < i
  new_below i u h (leaf symbol r) e c = absurd c
  new_below i u h (leaf handed r) e c = absurd c
  new_below i u h (inner a b) e c =
      let (inside, kept, number) = from I table K top stands i h in
      let (same, ka, kb) = stands.kids (piece_node I K i) a b inside kept e in
      let one : (w : ℕ) → K.keep w ≡ 1 → Has w (kids_of (inner a b)) → renumber K.keep w < i =
      λ w kw hw. let below = tree.below {v = piece_node I K i} {u = w} inside
      (subst (λ x. Has w (kids_of x)) (sym same) hw) in
      let less = renumber_lt K.keep w (piece_node I K i) kw below in omega arith in
      ⊎_elim (λ p. let l = one a ka (inl refl) in omega arith) (λ p. let l = one b kb (inr refl) in omega arith) c

  new_apart : (i : ℕ) → i < m → (x : Node) → K.node (piece_node I K i) ≡ x → (a' b' : ℕ)
      → renumbered I K (piece_node I K i) x ≡ inner a' b' → a' ≡ b' → ⊥
  new_apart i h (leaf symbol r) e a' b' f g = absurd (leaf_inner f)
  new_apart i h (leaf handed r) e a' b' f g = absurd (leaf_inner f)
  new_apart i h (inner a b) e a' b' f g =
      let (inside, kept, number) = from I table K top stands i h in
      let (same, ka, kb) = stands.kids (piece_node I K i) a b inside kept e in
      let left_same : renumber K.keep a ≡ a' = cc in
      let right_same : renumber K.keep b ≡ b' = cc in
      tree.apart inside same (renumber_one K.keep a b ka kb (left_same ∙ g ∙ sym right_same))

  -- The piece keeps the tree rules.
  pub piece_tree : TreeRules m (node_in (piece I K))
  unfolding node_new
  piece_tree =
      record {
        below = λ {v} {u} h c. new_below v u h (K.node (piece_node I K v)) refl
            (subst (λ x. Has u (kids_of x)) (piece_node_lem I table K top stands v h) c);
        apart = λ {v} {a} {b} h e. new_apart v h (K.node (piece_node I K v)) refl a b
            (sym (piece_node_lem I table K top stands v h) ∙ e);
        child = λ {u} h. piece_child u h;
        rows = piece_rows I table K top stands;
      }

  -- and the right size
  pub piece_size : SizeRules (piece I K).left (piece I K).right
  piece_size =
      let long = piece_nodes I table K top stands in
      let some = piece_some I table K top stands in
      let few = renumber_most K.keep n stands.marks in
      let many = table.legal.size.most in
      let same : suc (m - 1) ≡ m = omega arith in
      let odd = rules_odd (m - 1) (node_in (piece I K))
      (subst (λ k. TreeRules k (node_in (piece I K))) (sym same) piece_tree) in
      let e : length (piece I K).left % 2 ≡ 1 = ap (λ k. k % 2) (long ∙ sym same) ∙ odd in
      record {
        equal = long ∙ sym (list_long m (λ i. right_entry (node_new I K i)));
        odd = e;
        most = omega arith;
      }

-- What is kept of a table: its nodes stand as a tree, and its matrix rows and handed tips are kept once or not at all.
-- Assumes nothing.
use mathlib.Core.Path.{◌≡◌, refl, ap, ap₂, sym, ◌∙◌}
use Prim.Native.Nat.{ℕ, ◌*◌, ◌-◌, ◌≤◌, ◌<◌}
use native.Mathlib.Nat.{one-mul, zero-mul}
use native.Mathlib.Omega.{arith}
use Rattle.parsimony.specs.Row.{row}
use Rattle.parsimony.specs.Table.{
  Kind,
  symbol,
  handed,
  Node,
  leaf,
  inner,
  kids_of,
  is_tip,
  names,
  tips,
  row_uses,
  TreeRules,
}
use Rattle.parsimony.specs.Test.{at}
use Rattle.parsimony.specs.Tree.{Has}
use Rattle.parsimony.proofs.Order.{by_lt, by_eq, at_same, at_other}
use Rattle.parsimony.proofs.ShapeLaws.{row_within}
use Rattle.parsimony.proofs.Sums.{sum_le, sum_before}
use Rattle.parsimony.proofs.TipLaws.{sum_ones, names_own}
use Rattle.promises.specs.CallRules.{Allowed}
use Rattle.promises.specs.Input.{Input, nodes, node_in, tips_in, column}
use Rattle.cuts.specs.Numbering.{renumber}
use Rattle.cuts.specs.Piece.{Choice, kept_row, kept_handed, piece_node, kept_nodes}
use Rattle.cuts.proofs.NumberLaws.{Marks, renumber_lt, original_is, original_own}

-- The kept nodes stand as a tree with root top: with an inner node its children are kept; each kept node but top is a
-- child of a kept one; tips and inner nodes are those of the table, but for handed tips, whose rows are the table's
-- there.
pub record Stands (I : Input) (K : Choice) (top : ℕ) : Type 0 where
  pub marks : Marks (nodes I) K.keep
  pub inside : top < nodes I
  pub kept : K.keep top ≡ 1
  pub most : (u : ℕ) → u < nodes I → K.keep u ≡ 1 → u ≤ top
  pub kids : (u a b : ℕ) → u < nodes I → K.keep u ≡ 1 → K.node u ≡ inner a b
      → (node_in I u ≡ inner a b) × (K.keep a ≡ 1) × (K.keep b ≡ 1)
  pub tips : (u r : ℕ) → u < nodes I → K.keep u ≡ 1 → K.node u ≡ leaf symbol r → node_in I u ≡ leaf symbol r
  pub parent : (u : ℕ) → u < top → K.keep u ≡ 1
      → (p : ℕ) × (p < nodes I) × (K.keep p ≡ 1) × Has u (kids_of (K.node p))
  pub rows : (j u k x : ℕ) → j < I.c → u < nodes I → K.keep u ≡ 1 → K.node u ≡ leaf handed k → x < I.s
      → K.entry j u x ≡ row (column I j) u x

-- two terms that are the same where they count
pub keep_same : (k x y : ℕ) → k ≤ 1 → (k ≡ 1 → x ≡ y) → k * x ≡ k * y
keep_same k x y most same =
    by_eq k 1 (λ e. ap (λ z. k * z) (same e))
    (λ ne. let z : k ≡ 0 = omega arith in ap (λ i. i * x) z ∙ zero-mul x ∙ sym (zero-mul y) ∙ ap (λ i. i * y) (sym z))

pub keep_le : (k x y : ℕ) → k ≤ 1 → (k ≡ 1 → x ≤ y) → k * x ≤ y
keep_le k x y most less =
    by_eq k 1 (λ e. let p : k * x ≡ x = ap (λ i. i * x) e ∙ one-mul x in let q = less e in omega arith)
    (λ ne. let z : k ≡ 0 = omega arith in let p : k * x ≡ 0 = ap (λ i. i * x) z ∙ zero-mul x in omega arith)

-- two places that are met together
pub at_both : (u m a b : ℕ) → (u ≡ a → m ≡ b) → (m ≡ b → u ≡ a) → at u 1 a ≡ at m 1 b
at_both u m a b f g =
    by_eq u a (λ e. at_same u 1 a e ∙ sym (at_same m 1 b (f e)))
    (λ ne. at_other u 1 a ne ∙ sym (at_other m 1 b (λ e. ne (g e))))

module _ (I : Input) (table : Allowed I) (K : Choice) (top : ℕ) (stands : Stands I K top) where
  abbrev n : ℕ
  n = nodes I

  abbrev t : ℕ
  t = tips_in symbol I

  abbrev tree : TreeRules n (node_in I)
  tree = table.legal.tree

  -- the original of a node of the piece
  pub from : (i : ℕ) → i < kept_nodes I K
      → (piece_node I K i < n) × (K.keep (piece_node I K i) ≡ 1) × (renumber K.keep (piece_node I K i) ≡ i)
  unfolding piece_node
  from i h = original_is K.keep n i stands.marks h

  -- a kept node is a node of the piece
  pub piece_own : (u : ℕ) → u < n → K.keep u ≡ 1
      → (renumber K.keep u < kept_nodes I K) × (piece_node I K (renumber K.keep u) ≡ u)
  unfolding piece_node
  piece_own u h k = (renumber_lt K.keep u n k h, original_own K.keep n u stands.marks h k)

  -- it has a node
  pub piece_some : 0 < kept_nodes I K
  piece_some = let l = renumber_lt K.keep top n stands.kept stands.inside in omega arith

  -- its last node is the one that stands on top
  pub piece_top : piece_node I K (kept_nodes I K - 1) ≡ top
  piece_top =
      let some = piece_some in
      let (inside, kept, number) = from (kept_nodes I K - 1) (omega arith) in
      let high = stands.most (piece_node I K (kept_nodes I K - 1)) inside kept in
      by_lt (piece_node I K (kept_nodes I K - 1)) top
      (λ low. absurd (let a = renumber_lt K.keep (piece_node I K (kept_nodes I K - 1)) top kept low in
      let b = renumber_lt K.keep top n stands.kept stands.inside in omega arith))
      (λ over. omega arith)

  -- a matrix row of the table is kept once or not at all
  pub row_marks : Marks t (kept_row I K)
  unfolding kept_row row_uses
  row_marks =
      record {
        most = λ r h. let one = tree.rows symbol r h in
            let less = sum_le (λ u. K.keep u * names symbol r (K.node u)) (λ u. names symbol r (node_in I u)) n
            (λ u k. keep_le (K.keep u) _ _ (stands.marks.most u k) (λ e. own u r k e (K.node u) refl)) in
            omega arith;
      }
    where
      own : (u r : ℕ) → u < n → K.keep u ≡ 1 → (x : Node) → K.node u ≡ x
          → names symbol r x ≤ names symbol r (node_in I u)
      own u r h k (leaf symbol q) e =
          let same : names symbol r (node_in I u) ≡ names symbol r (leaf symbol q) =
          ap (names symbol r) (stands.tips u q h k e) in
          omega arith
      own u r h k (leaf handed q) e = omega arith
      own u r h k (inner a b) e = omega arith

  -- and a kept tip's is
  pub row_kept : (u r : ℕ) → u < n → K.keep u ≡ 1 → K.node u ≡ leaf symbol r → (r < t) × (kept_row I K r ≡ 1)
  unfolding kept_row
  row_kept u r h k e =
      let low = row_within n (node_in I) tree u h symbol r (stands.tips u r h k e) in
      let most = row_marks.most r low in
      let part = sum_before (λ u. K.keep u * names symbol r (K.node u)) n u h in
      let here : K.keep u * names symbol r (K.node u) ≡ 1 = ap₂ ◌*◌ k (ap (names symbol r) e ∙ names_own symbol r) in
      (low, omega arith)

  -- handed tips are kept or not
  tip_le : (k : Kind) (x : Node) → is_tip k x ≤ 1
  tip_le symbol (leaf symbol r) = omega arith
  tip_le symbol (leaf handed r) = omega arith
  tip_le handed (leaf symbol r) = omega arith
  tip_le handed (leaf handed r) = omega arith
  tip_le k (inner a b) = omega arith

  pub tips_few : t ≤ n
  unfolding tips
  tips_few =
      let each_one = sum_le (λ p. is_tip symbol (node_in I p)) (λ p. 1) n (λ p h. tip_le symbol (node_in I p)) in
      let ones = sum_ones n in
      omega arith

  pub handed_marks : Marks n (kept_handed K)
  unfolding kept_handed
  handed_marks =
      record { most = λ u h. keep_le (K.keep u) _ 1 (stands.marks.most u h) (λ e. tip_le handed (K.node u)) }

-- Each matrix row and each handed row of a piece occurs once.
-- Assumes nothing.
use mathlib.Core.Path.{◌≡◌, refl, ap, sym, ◌∙◌}
use Prim.Native.Nat.{ℕ, ◌*◌, ◌<◌}
use native.Mathlib.Nat.{zero-mul, mul-zero, mul-one}
use native.Mathlib.Omega.{arith}
use Rattle.parsimony.specs.Table.{Kind, symbol, handed, Node, leaf, inner, is_tip, names, tips, row_uses}
use Rattle.parsimony.specs.Test.{at}
use Rattle.parsimony.proofs.Sums.{sum_same, sum_at}
use Rattle.promises.specs.CallRules.{Allowed}
use Rattle.promises.specs.Input.{Input, nodes, node_in, tips_in}
use Rattle.cuts.specs.Numbering.{renumber, original}
use Rattle.cuts.specs.Piece.{Choice, kept_row, kept_handed, renumbered, kept_nodes, kept_rows, kept_tips, piece}
use Rattle.cuts.proofs.NumberLaws.{renumber_one, original_is, sum_kept}
use Rattle.cuts.proofs.KeptLaws.{Stands, keep_same, at_both, row_marks, row_kept, handed_marks}
use Rattle.cuts.proofs.PieceNodes.{sum_piece, piece_handed, piece_symbol}

module _ (I : Input) (table : Allowed I) (K : Choice) (top : ℕ) (stands : Stands I K top) where
  abbrev n : ℕ
  n = nodes I

  abbrev t : ℕ
  t = tips_in symbol I

  abbrev m : ℕ
  m = kept_nodes I K

  -- a kept tip has matrix row q of the piece where it had its original
  row_name : (q r u : ℕ) → renumber (kept_row I K) r ≡ q → kept_row I K r ≡ 1 → u < n → K.keep u ≡ 1 → (x : Node)
      → K.node u ≡ x → names symbol q (renumbered I K u x) ≡ names symbol r x
  row_name q r u number kept h k (leaf symbol p) e =
      let (low, own) = row_kept I table K top stands u p h k e in
      at_both q r (renumber (kept_row I K) p) p (λ i. renumber_one (kept_row I K) r p kept own (number ∙ i))
      (λ i. sym number ∙ ap (renumber (kept_row I K)) i)
  row_name q r u number kept h k (leaf handed p) e = refl
  row_name q r u number kept h k (inner a b) e = refl

  -- so each matrix row of the piece occurs once
  piece_rows_symbol : (q : ℕ) → q < kept_rows I K → row_uses symbol (node_in (piece I K)) m q ≡ 1
  unfolding row_uses kept_row
  piece_rows_symbol q h =
      let (inside, kept, number) = original_is (kept_row I K) t q (row_marks I table K top stands) h in
      let r = original (kept_row I K) t q in
      sum_piece I table K top stands (names symbol q)
      ∙ sum_same _ (λ u. K.keep u * names symbol r (K.node u)) n
      (λ u hu. keep_same (K.keep u) _ _ (stands.marks.most u hu)
      (λ k. row_name q r u number kept hu k (K.node u) refl))
      ∙ kept

  -- and each handed row
  handed_name : (q u : ℕ) (x : Node)
      → K.keep u * names handed q (renumbered I K u x)
      ≡ K.keep u * is_tip handed x * at q 1 (renumber (kept_handed K) u)
  handed_name q u (leaf symbol r) =
      mul-zero (K.keep u) ∙ sym (zero-mul (at q 1 (renumber (kept_handed K) u)))
      ∙ ap (λ z. z * at q 1 (renumber (kept_handed K) u)) (sym (mul-zero (K.keep u)))
  handed_name q u (leaf handed r) =
      ap (λ z. z * at q 1 (renumber (kept_handed K) u)) (sym (mul-one (K.keep u)))
  handed_name q u (inner a b) =
      mul-zero (K.keep u) ∙ sym (zero-mul (at q 1 (renumber (kept_handed K) u)))
      ∙ ap (λ z. z * at q 1 (renumber (kept_handed K) u)) (sym (mul-zero (K.keep u)))

  piece_rows_handed : (q : ℕ) → q < kept_tips I K → row_uses handed (node_in (piece I K)) m q ≡ 1
  unfolding row_uses kept_handed
  piece_rows_handed q h =
      sum_piece I table K top stands (names handed q)
      ∙ sum_same _ (λ u. kept_handed K u * at q 1 (renumber (kept_handed K) u)) n (λ u hu. handed_name q u (K.node u))
      ∙ sym (sum_kept (kept_handed K) (λ u. at q 1 (renumber (kept_handed K) u)) n (handed_marks I table K top stands))
      ∙ sum_same _ (λ i. at i 1 q) (kept_tips I K)
      (λ i hi. let (inside, kept, number) = original_is (kept_handed K) n i (handed_marks I table K top stands) hi in
      at_both q i (renumber (kept_handed K) (original (kept_handed K) n i)) q
      (λ e. sym number ∙ sym e) (λ e. sym e ∙ sym number))
      ∙ sum_at (λ i. 1) (kept_tips I K) q h

  pub piece_rows : (k : Kind) (r : ℕ) → r < tips k (node_in (piece I K)) m → row_uses k (node_in (piece I K)) m r ≡ 1
  piece_rows symbol r h = piece_rows_symbol r (let e = piece_symbol I table K top stands in omega arith)
  piece_rows handed r h = piece_rows_handed r (let e = piece_handed I table K top stands in omega arith)

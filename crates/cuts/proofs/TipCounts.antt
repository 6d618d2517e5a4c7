-- How many tips the part and the rest of a cut have.
-- Assumes nothing.
use mathlib.Core.Path.{◌≡◌, ap, ap₂, ◌∙◌}
use Prim.Native.Nat.{ℕ, ◌+◌, ◌*◌, ◌-◌, ◌<◌}
use native.Mathlib.Nat.{zero-mul, one-mul}
use native.Mathlib.Omega.{arith}
use borrow.Author.Tests.{eq-eqb, ne_eqb}
use Rattle.parsimony.specs.Row.{row}
use Rattle.parsimony.specs.Sum.{sum}
use Rattle.parsimony.specs.Table.{Kind, handed, leaf, is_tip, tips}
use Rattle.parsimony.specs.Test.{at}
use Rattle.parsimony.proofs.Order.{by_eq, pick_true, pick_false, at_same, at_other}
use Rattle.parsimony.proofs.Sums.{sum_same, sum_add, sum_at}
use Rattle.promises.specs.CallRules.{Allowed}
use Rattle.promises.specs.Input.{Input, nodes, node_in, tips_in, column}
use Rattle.cuts.specs.Cut.{CutAt, branch, part, rest, in_part, in_rest}
use Rattle.cuts.proofs.CutLaws.{part_stands, rest_stands, branch_own}
use Rattle.cuts.proofs.PieceNodes.{piece_nodes, tips_new}

module _ (I : Input) (table : Allowed I) (v : ℕ) (cut : CutAt I v) where
  -- the part has the tips at or below v
  pub part_tips : (k : Kind) → tips_in k (part I v) ≡ sum (λ u. branch I v u * is_tip k (node_in I u)) (nodes I)
  part_tips k =
      let stands = part_stands I table v cut in
      ap (tips k (node_in (part I v))) (piece_nodes I table (in_part I v) v stands)
      ∙ tips_new I table (in_part I v) v stands k

  -- the rest has the others, and one handed tip more: v
  pub rest_tips : (sent : ℕ → ℕ → ℕ) → ((j x : ℕ) → j < I.c → x < I.s → sent j x ≡ row (column I j) v x)
      → (k : Kind)
      → tips_in k (rest I v sent)
      ≡ sum (λ u. (1 - branch I v u) * is_tip k (node_in I u)) (nodes I) + is_tip k (leaf handed 0)
  rest_tips sent right k =
      let stands = rest_stands I table v cut sent right in
      let inside = cut.inside in
      ap (tips k (node_in (rest I v sent))) (piece_nodes I table (in_rest I v sent) (nodes I - 1) stands)
      ∙ tips_new I table (in_rest I v sent) (nodes I - 1) stands k
      ∙ sum_same _ (λ u. (1 - branch I v u) * is_tip k (node_in I u) + at u (is_tip k (leaf handed 0)) v) (nodes I)
      (λ u h. by_eq u v (own u) (other u))
      ∙ sum_add (λ u. (1 - branch I v u) * is_tip k (node_in I u)) (λ u. at u (is_tip k (leaf handed 0)) v) (nodes I)
      ∙ ap (λ z. sum (λ u. (1 - branch I v u) * is_tip k (node_in I u)) (nodes I) + z)
      (sum_at (λ u. is_tip k (leaf handed 0)) (nodes I) v (omega arith))
    where
      own : (u : ℕ) → u ≡ v
          → (in_rest I v sent).keep u * is_tip k ((in_rest I v sent).node u)
          ≡ (1 - branch I v u) * is_tip k (node_in I u) + at u (is_tip k (leaf handed 0)) v
      own u e =
          let mark : branch I v u ≡ 1 = ap (branch I v) e ∙ branch_own I table v cut in
          let gone : (1 - branch I v u) * is_tip k (node_in I u) ≡ 0 =
          ap (λ z. (1 - z) * is_tip k (node_in I u)) mark ∙ zero-mul (is_tip k (node_in I u)) in
          let here = at_same u (is_tip k (leaf handed 0)) v e in
          ap₂ ◌*◌ (pick_true 1 (1 - branch I v u) (eq-eqb u v e))
          (ap (is_tip k) (pick_true (leaf handed 0) (node_in I u) (eq-eqb u v e)))
          ∙ one-mul (is_tip k (leaf handed 0))
          ∙ omega arith

      other : (u : ℕ) → (u ≡ v → ⊥)
          → (in_rest I v sent).keep u * is_tip k ((in_rest I v sent).node u)
          ≡ (1 - branch I v u) * is_tip k (node_in I u) + at u (is_tip k (leaf handed 0)) v
      other u ne =
          let here = at_other u (is_tip k (leaf handed 0)) v ne in
          ap₂ ◌*◌ (pick_false 1 (1 - branch I v u) (ne_eqb u v ne))
          (ap (is_tip k) (pick_false (leaf handed 0) (node_in I u) (ne_eqb u v ne)))
          ∙ omega arith

-- The nodes of a tree keep the tree rules, where each name occurs once.
-- Assumes nothing.
use mathlib.Core.Logic.{⊎_elim}
use mathlib.Core.Path.{◌≡◌, refl, ◌∙◌, subst}
use Prim.Native.Nat.{ℕ, ◌+◌, ◌*◌, ◌<◌}
use native.Mathlib.Omega.{arith}
use Rattle.parsimony.specs.Sum.{sum}
use Rattle.parsimony.specs.Table.{
  Kind,
  symbol,
  handed,
  Node,
  leaf,
  inner,
  kids_of,
  is_tip,
  names,
  tips,
  row_uses,
  TreeRules,
}
use Rattle.parsimony.specs.Test.{at}
use Rattle.parsimony.specs.Tree.{Has, each, uses}
use Rattle.sheet_tips.specs.Vine.{Vine, vine_nodes, occurs}
use Rattle.sheet_tree.proofs.ChildLaws.{Stood, stood_used, stood_inner}
use Rattle.sheet_tree.proofs.SpanLaws.{over_zero}
use Rattle.sheet_tree.proofs.TipLaws.{stood_rows, stood_tips, stood_handed}

module _ (node : ℕ → Node) where
  -- The nodes of a tree with each of its t names once keep the tree rules.
  pub stood_rules : (v : Vine) (t : ℕ) → Stood node v 0 → vine_nodes v + 1 ≡ 2 * t → ((r : ℕ) → r < t → occurs r v ≡ 1)
      → TreeRules (vine_nodes v) node
  unfolding tips row_uses uses
  stood_rules v t st all once =
      record {
        below = λ {v = p} {u} h c. child_below p u h c (node p) refl;
        apart = λ {v = p} {a} {b} h e. (stood_inner node v 0 p a b st (omega arith) (omega arith) e).2;
        child = λ {u} h. over_zero (λ p. each (at u 1) (kids_of (node p))) (vine_nodes v)
            ∙ stood_used node v 0 u st (omega arith) (omega arith);
        rows = rows;
      }
    where
      child_below : (p u : ℕ) → p < vine_nodes v → Has u (kids_of (node p)) → (x : Node) → node p ≡ x → u < p
      child_below p u h c (leaf k r) e = absurd (subst (λ x. Has u (kids_of x)) e c)
      child_below p u h c (inner a b) e =
          let (la, lb, ne) = stood_inner node v 0 p a b st (omega arith) (omega arith) e in
          ⊎_elim (λ q. omega arith) (λ q. omega arith) (subst (λ x. Has u (kids_of x)) e c)

      rows : (k : Kind) (r : ℕ) → r < sum (λ p. is_tip k (node p)) (vine_nodes v)
          → sum (λ p. names k r (node p)) (vine_nodes v) ≡ 1
      rows symbol r h =
          let many = stood_tips node v 0 st in
          let same = over_zero (λ p. is_tip symbol (node p)) (vine_nodes v) in
          over_zero (λ p. names symbol r (node p)) (vine_nodes v) ∙ stood_rows node v 0 r st ∙ once r (omega arith)
      rows handed r h =
          let none = stood_handed node v 0 st in
          let same = over_zero (λ p. is_tip handed (node p)) (vine_nodes v) in
          absurd (omega arith)

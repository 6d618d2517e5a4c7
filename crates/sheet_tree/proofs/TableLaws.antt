-- The table of a tree as text is legal, where each name occurs once.
-- Assumes nothing.
use mathlib.Core.List.{List}
use mathlib.Core.Path.{◌≡◌, ap, sym, ◌∙◌, subst}
use Prim.Native.Nat.{ℕ, ◌+◌, ◌*◌, ◌≤◌, ◌<◌}
use native.Mathlib.Omega.{arith}
use lib.ListN.{length, get_or}
use Rattle.parsimony.specs.Sum.{sum}
use Rattle.parsimony.specs.Table.{Kind, symbol, handed, node_at, is_tip, tips, TreeRules, Legal}
use Rattle.sheet_tips.specs.Nodes.{lefts, rights}
use Rattle.sheet_tips.specs.Vine.{Vine, vine_nodes, occurs}
use Rattle.sheet_tree.proofs.ChildLaws.{Stood}
use Rattle.sheet_tree.proofs.EntryLaws.{Rows, stood_lists}
use Rattle.sheet_tree.proofs.PairSteps.{lefts_long, rights_long}
use Rattle.sheet_tree.proofs.RuleLaws.{stood_rules}
use Rattle.sheet_tree.proofs.SpanLaws.{over, over_zero}
use Rattle.sheet_tree.proofs.TipLaws.{stood_tips, stood_handed}

-- The table of a tree with each of t names once is legal, and has t symbol tips and no handed tip.
module _ (v : Vine) (t : ℕ) (rows : Rows t v) (few : t ≤ 512) (all : vine_nodes v + 1 ≡ 2 * t)
    (once : (r : ℕ) → r < t → occurs r v ≡ 1) where
  abbrev left : List ℕ
  left = lefts v 0

  abbrev right : List ℕ
  right = rights v 0

  stood : Stood (node_at left right) v 0
  stood =
      stood_lists left right v 0 t rows few (omega arith)
      (λ i h. let same : 0 + i ≡ i = omega arith in ap (λ k. get_or left k 0) same)
      (λ i h. let same : 0 + i ≡ i = omega arith in ap (λ k. get_or right k 0) same)

  pub vine_legal : Legal left right
  vine_legal =
      let long = lefts_long v 0 in
      let same = rights_long v 0 in
      let kept = stood_rules (node_at left right) v t stood all once in
      record {
        size = record { equal = long ∙ sym same; odd = omega arith; most = omega arith };
        tree = subst (λ n. TreeRules n (node_at left right)) (sym long) kept;
      }

  -- the tips of a kind are counted over the nodes of the tree
  vine_kind : (k : Kind)
      → tips k (node_at left right) (length left) ≡ over (λ p. is_tip k (node_at left right p)) 0 (vine_nodes v)
  unfolding tips
  vine_kind k =
      let tip : ℕ → ℕ = λ p. is_tip k (node_at left right p) in
      ap (sum tip) (lefts_long v 0) ∙ over_zero tip (vine_nodes v)

  pub vine_tips : tips symbol (node_at left right) (length left) ≡ t
  vine_tips =
      let many = stood_tips (node_at left right) v 0 stood in
      vine_kind symbol ∙ omega arith

  pub vine_handed : tips handed (node_at left right) (length left) ≡ 0
  vine_handed = vine_kind handed ∙ stood_handed (node_at left right) v 0 stood

-- The nodes of a tree, and what they name as children: each but the last once, and only lower ones.
-- Assumes nothing.
use mathlib.Core.Path.{◌≡◌, ap, sym, ◌∙◌}
use Prim.Native.Nat.{ℕ, suc, ◌+◌, ◌-◌, ◌≤◌, ◌<◌}
use native.Mathlib.Omega.{arith}
use Rattle.parsimony.specs.Table.{symbol, Node, leaf, inner, kids_of}
use Rattle.parsimony.specs.Test.{at}
use Rattle.parsimony.specs.Tree.{each}
use Rattle.parsimony.proofs.NodeLaws.{leaf_inner}
use Rattle.parsimony.proofs.Order.{by_lt, by_eq, at_same, at_other}
use Rattle.sheet_tips.specs.Vine.{Vine, tip, pair, vine_nodes}
use Rattle.sheet_tree.proofs.PairSteps.{size_some}
use Rattle.sheet_tree.proofs.SpanLaws.{size_tip, size_pair, over, over_pair, over_one}

-- the nodes from n on are those of a tree
abbrev pub Stood : (ℕ → Node) → Vine → ℕ → Type 0
Stood node (tip r) n = node n ≡ leaf symbol r
Stood node (pair a b) n =
    Stood node a n
    × (Stood node b (n + vine_nodes a)
    × (node (n + vine_nodes a + vine_nodes b) ≡ inner (n + vine_nodes a - 1) (n + vine_nodes a + vine_nodes b - 1)))

inner_same : {a b c d : ℕ} → inner a b ≡ inner c d → (a ≡ c) × (b ≡ d)
inner_same e = (cc, cc)

module _ (node : ℕ → Node) where
  -- how often the nodes of a tree name u as a child: once, where u is one of them but the last
  stood_unused : (v : Vine) (n u : ℕ) → Stood node v n → ((n ≤ u) → suc u < n + vine_nodes v → ⊥)
      → over (λ p. each (at u 1) (kids_of (node p))) n (vine_nodes v) ≡ 0
  stood_unused (tip r) n u st out =
      over_one (λ p. each (at u 1) (kids_of (node p))) n r ∙ ap (λ x. each (at u 1) (kids_of x)) st
  stood_unused (pair a b) n u (sa, (sb, here)) out =
      let f : ℕ → ℕ = λ p. each (at u 1) (kids_of (node p)) in
      let total = over_pair f n a b in
      let pa = size_some a in
      let pb = size_some b in
      let whole : vine_nodes (pair a b) ≡ suc (vine_nodes a + vine_nodes b) = size_pair a b in
      let one = stood_unused a n u sa (λ h k. out h (omega arith)) in
      let two = stood_unused b (n + vine_nodes a) u sb (λ h k. out (omega arith) (omega arith)) in
      let own : f (n + vine_nodes a + vine_nodes b)
      ≡ at u 1 (n + vine_nodes a - 1) + at u 1 (n + vine_nodes a + vine_nodes b - 1) =
      ap (λ x. each (at u 1) (kids_of x)) here in
      let left_other = at_other u 1 (n + vine_nodes a - 1) (λ e. out (omega arith) (omega arith)) in
      let right_other = at_other u 1 (n + vine_nodes a + vine_nodes b - 1) (λ e. out (omega arith) (omega arith)) in
      omega arith

  pub stood_used : (v : Vine) (n u : ℕ) → Stood node v n → n ≤ u → suc u < n + vine_nodes v
      → over (λ p. each (at u 1) (kids_of (node p))) n (vine_nodes v) ≡ 1
  stood_used (tip r) n u st from below = absurd (let one = size_tip r in omega arith)
  stood_used (pair a b) n u (sa, (sb, here)) from below =
      let f : ℕ → ℕ = λ p. each (at u 1) (kids_of (node p)) in
      let total = over_pair f n a b in
      let pa = size_some a in
      let pb = size_some b in
      let whole : vine_nodes (pair a b) ≡ suc (vine_nodes a + vine_nodes b) = size_pair a b in
      let own : f (n + vine_nodes a + vine_nodes b)
      ≡ at u 1 (n + vine_nodes a - 1) + at u 1 (n + vine_nodes a + vine_nodes b - 1) =
      ap (λ x. each (at u 1) (kids_of x)) here in
      by_lt (suc u) (n + vine_nodes a)
      (λ in_a. let one = stood_used a n u sa from in_a in
      let two = stood_unused b (n + vine_nodes a) u sb (λ h k. omega arith) in
      let left_other = at_other u 1 (n + vine_nodes a - 1) (λ e. omega arith) in
      let right_other = at_other u 1 (n + vine_nodes a + vine_nodes b - 1) (λ e. omega arith) in
      omega arith)
      (λ after_a. by_eq u (n + vine_nodes a - 1)
      (λ e. let one = stood_unused a n u sa (λ h k. omega arith) in
      let two = stood_unused b (n + vine_nodes a) u sb (λ h k. omega arith) in
      let left_same = at_same u 1 (n + vine_nodes a - 1) e in
      let right_other = at_other u 1 (n + vine_nodes a + vine_nodes b - 1) (λ p. omega arith) in
      omega arith)
      (λ ne. by_lt (suc u) (n + vine_nodes a + vine_nodes b)
      (λ in_b. let one = stood_unused a n u sa (λ h k. omega arith) in
      let two = stood_used b (n + vine_nodes a) u sb (omega arith) in_b in
      let left_other = at_other u 1 (n + vine_nodes a - 1) ne in
      let right_other = at_other u 1 (n + vine_nodes a + vine_nodes b - 1) (λ e. omega arith) in
      omega arith)
      (λ after_b. let one = stood_unused a n u sa (λ h k. omega arith) in
      let two = stood_unused b (n + vine_nodes a) u sb (λ h k. omega arith) in
      let left_other = at_other u 1 (n + vine_nodes a - 1) ne in
      let right_same = at_same u 1 (n + vine_nodes a + vine_nodes b - 1) (omega arith) in
      omega arith)))

  -- an inner node's children are below it, and different
  pub stood_inner : (v : Vine) (n p a b : ℕ) → Stood node v n → n ≤ p → p < n + vine_nodes v → node p ≡ inner a b
      → (a < p) × (b < p) × (a ≡ b → ⊥)
  stood_inner (tip r) n p a b st from below e =
      let one = size_tip r in
      let same : p ≡ n = omega arith in
      absurd (leaf_inner (sym st ∙ ap node (sym same) ∙ e))
  stood_inner (pair v w) n p a b (sv, (sw, here)) from below e =
      let pv = size_some v in
      let pw = size_some w in
      let whole = size_pair v w in
      by_lt p (n + vine_nodes v) (λ h. stood_inner v n p a b sv from h e)
      (λ h. by_lt p (n + vine_nodes v + vine_nodes w) (λ k. stood_inner w (n + vine_nodes v) p a b sw h k e)
      (λ k. let same : p ≡ n + vine_nodes v + vine_nodes w = omega arith in
      let (l, r) = inner_same (sym here ∙ ap node (sym same) ∙ e) in
      (omega arith, omega arith, λ q. omega arith)))

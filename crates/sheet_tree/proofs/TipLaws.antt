-- The tips among the nodes of a tree: how many there are of each kind, and how many have a row.
-- Assumes nothing.
use mathlib.Core.Path.{◌≡◌, ap, ◌∙◌}
use Prim.Native.Nat.{ℕ, ◌+◌, ◌*◌}
use native.Mathlib.Omega.{arith}
use Rattle.parsimony.specs.Table.{symbol, handed, Node, is_tip, names}
use Rattle.sheet_tips.specs.Vine.{Vine, tip, pair, vine_nodes, occurs}
use Rattle.sheet_tree.proofs.ChildLaws.{Stood}
use Rattle.sheet_tree.proofs.SpanLaws.{size_tip, size_pair, over, over_pair, over_one}

module _ (node : ℕ → Node) where
  -- how many of them have row r
  pub stood_rows : (v : Vine) (n r : ℕ) → Stood node v n
      → over (λ p. names symbol r (node p)) n (vine_nodes v) ≡ occurs r v
  unfolding occurs
  stood_rows (tip q) n r st = over_one (λ p. names symbol r (node p)) n q ∙ ap (names symbol r) st
  stood_rows (pair a b) n r (sa, (sb, here)) =
      let total = over_pair (λ p. names symbol r (node p)) n a b in
      let own : names symbol r (node (n + vine_nodes a + vine_nodes b)) ≡ 0 = ap (names symbol r) here in
      let one = stood_rows a n r sa in
      let two = stood_rows b (n + vine_nodes a) r sb in
      omega arith

  -- how many are tips
  pub stood_tips : (v : Vine) (n : ℕ) → Stood node v n
      → 2 * over (λ p. is_tip symbol (node p)) n (vine_nodes v) ≡ vine_nodes v + 1
  stood_tips (tip r) n st =
      let one : over (λ p. is_tip symbol (node p)) n (vine_nodes (tip r)) ≡ 1 =
      over_one (λ p. is_tip symbol (node p)) n r ∙ ap (is_tip symbol) st in
      let size_one = size_tip r in
      omega arith
  stood_tips (pair a b) n (sa, (sb, here)) =
      let total = over_pair (λ p. is_tip symbol (node p)) n a b in
      let own : is_tip symbol (node (n + vine_nodes a + vine_nodes b)) ≡ 0 = ap (is_tip symbol) here in
      let one = stood_tips a n sa in
      let two = stood_tips b (n + vine_nodes a) sb in
      let whole = size_pair a b in
      omega arith

  -- none of them is a handed tip
  pub stood_handed : (v : Vine) (n : ℕ) → Stood node v n → over (λ p. is_tip handed (node p)) n (vine_nodes v) ≡ 0
  stood_handed (tip r) n st = over_one (λ p. is_tip handed (node p)) n r ∙ ap (is_tip handed) st
  stood_handed (pair a b) n (sa, (sb, here)) =
      let total = over_pair (λ p. is_tip handed (node p)) n a b in
      let own : is_tip handed (node (n + vine_nodes a + vine_nodes b)) ≡ 0 = ap (is_tip handed) here in
      let one = stood_handed a n sa in
      let two = stood_handed b (n + vine_nodes a) sb in
      omega arith

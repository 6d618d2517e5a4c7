-- A node of a table read from its two entries, and that a tip is no inner node.
-- Assumes nothing.
use mathlib.Core.List.{List}
use mathlib.Core.Path.{◌≡◌, ap, ap₂, sym, ◌∙◌}
use Prim.Native.Nat.{ℕ, ◌+◌, ◌<◌}
use native.Mathlib.Omega.{arith}
use borrow.Author.Tests.{eq-eqb, ne_eqb, lt-ltb, le-ltb}
use lib.ListN.{get_or}
use Rattle.parsimony.specs.Table.{Kind, symbol, handed, leaf, inner, leaf_at, node_at}
use Rattle.parsimony.proofs.Order.{pick_true, pick_false}

-- a tip is no inner node
pub leaf_inner : {k : Kind} {r a b : ℕ} → leaf k r ≡ inner a b → ⊥
leaf_inner e = let z : ◌≡◌ {A = ℕ} 0 1 = cc in omega arith

module _ (left right : List ℕ) (v : ℕ) where
  -- a symbol tip
  pub node_symbol : (r : ℕ) → r < 32768 → get_or left v 0 ≡ 65535 → get_or right v 0 ≡ r
      → node_at left right v ≡ leaf symbol r
  unfolding node_at leaf_at
  node_symbol r small e f = pick_true _ _ (eq-eqb _ 65535 e) ∙ ap leaf_at f ∙ pick_true _ _ (lt-ltb r 32768 small)

  -- a handed tip
  pub node_handed : (k : ℕ) → get_or left v 0 ≡ 65535 → get_or right v 0 ≡ 32768 + k → node_at left right v ≡ leaf handed k
  unfolding node_at leaf_at
  node_handed k e f =
      pick_true _ _ (eq-eqb _ 65535 e)
      ∙ ap leaf_at f
      ∙ pick_false _ _ (le-ltb (32768 + k) 32768 (omega arith))
      ∙ ap (leaf handed) (omega arith)

  -- an inner node
  pub node_inner : (a b : ℕ) → (a ≡ 65535 → ⊥) → get_or left v 0 ≡ a → get_or right v 0 ≡ b → node_at left right v ≡ inner a b
  unfolding node_at
  node_inner a b other e f = pick_false _ _ (ne_eqb (get_or left v 0) 65535 (λ p. other (sym e ∙ p))) ∙ ap₂ inner e f

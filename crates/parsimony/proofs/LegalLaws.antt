-- A legal table: it has a node, its nodes are a tree with the last as root, and children are numbered below.
-- Assumes nothing.
use mathlib.Core.List.{List}
use mathlib.Core.Logic.{inl, inr}
use mathlib.Core.Path.{◌≡◌, refl, subst}
use Prim.Native.Nat.{ℕ, ◌-◌, ◌<◌}
use native.Mathlib.Omega.{arith}
use lib.ListN.{length}
use Rattle.parsimony.specs.Table.{inner, kids_of, kids_at, node_at, TreeRules, Legal}
use Rattle.parsimony.specs.Tree.{Has, Rooted}
use Rattle.parsimony.proofs.ShapeLaws.{rules_rooted}

module _ {left right : List ℕ} (legal : Legal left right) where
  pub legal_some : 0 < length left
  legal_some = let odd = legal.size.odd in omega arith

  pub legal_rooted : Rooted (length left - 1) (kids_at left right)
  legal_rooted =
      let some = legal_some in
      rules_rooted (length left - 1) (node_at left right)
      (subst (λ m. TreeRules m (node_at left right)) (omega arith) legal.tree)

  pub legal_below : {v a b : ℕ} → v < length left → inner a b ≡ node_at left right v → (a < v) × (b < v)
  legal_below {v} {a} {b} h e = (child a (inl refl), child b (inr refl))
    where
      child : (u : ℕ) → Has u (kids_of (inner a b)) → u < v
      child u has = legal.tree.below h (subst (λ q. Has u (kids_of q)) e has)

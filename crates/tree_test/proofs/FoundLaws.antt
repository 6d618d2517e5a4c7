-- Laws of what is found in a tree table: the first node whose entries break their rules, and the first unused one.
-- Assumes nothing.
use mathlib.Core.List.{List}
use mathlib.Core.Path.{◌≡◌, subst}
use Prim.Native.Nat.{ℕ, suc, ◌≤◌, ◌<◌}
use native.Mathlib.Omega.{arith}
use lib.ListN.{get_or}
use Rattle.parsimony.specs.Fault.{KeepsEntries, Keeps, LowestFault}
use Rattle.parsimony.specs.Table.{Node, TreeRules, child_uses}
use Rattle.parsimony.proofs.Order.{by_lt}
use Rattle.parsimony.proofs.ShapeLaws.{keeps_rules}
use Rattle.tree_uses.specs.Marks.{MarksAre}
use Rattle.tree_test.specs.Visit.{FirstNot}

module _ {n : ℕ} {node : ℕ → Node} {used : List ℕ} {f v : ℕ} (most : n ≤ 1023)
    (counted : MarksAre (child_uses node n) used) (entries : FirstNot (λ u. KeepsEntries n node u (node u)) n f)
    (uses : FirstNot (λ u. suc u < n → 1 ≤ get_or used u 0) f v) where
  -- a node below both keeps the rules
  below_both : (u : ℕ) → u < v → Keeps n node u
  below_both u i =
      record {
        entries = entries.before u (omega (arith, uses.within));
        used = λ last. let same = counted.entry u (omega arith) in let some = uses.before u i last in omega arith;
      }

  -- no node at fault
  pub found_none : v ≡ n → TreeRules n node
  found_none e = keeps_rules n node (λ u i. below_both u (omega arith))

  -- v is at fault
  pub found_fault : (v ≡ n → ⊥) → LowestFault n node v
  found_fault ne =
      record {
        within = omega (arith, uses.within, entries.within);
        breaks = λ k. by_lt v f
            (λ i. uses.stop i (λ last. let same = counted.entry v (omega arith) in
            let some = k.used last in
            omega arith))
            (λ i. entries.stop (omega (arith, uses.within, entries.within))
            (subst (λ u. KeepsEntries n node u (node u)) (omega (arith, uses.within)) k.entries));
        first = below_both;
      }

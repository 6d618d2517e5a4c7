-- Laws of marks: uses added, the counts of uses by the nodes, and the counts at one node more.
-- Assumes nothing.
use mathlib.Core.List.{List}
use mathlib.Core.Path.{◌≡◌, refl, sym, ◌∙◌, subst}
use Prim.Native.Nat.{ℕ, ◌+◌, ◌≤◌, ◌<◌}
use native.Mathlib.Nat.{le_antisymm}
use native.Mathlib.Omega.{arith}
use lib.ListN.{length, get_or, set, length-set, replicate, length-replicate, get_or-replicate}
use lib.Seq.{get_or-set_same, get_or-set_other}
use Rattle.parsimony.specs.Table.{Kind, Node, kids_of, names, row_uses, child_uses}
use Rattle.parsimony.specs.Test.{at}
use Rattle.parsimony.specs.Tree.{each}
use Rattle.parsimony.proofs.Order.{by_eq, at_same, at_other}
use Rattle.parsimony.proofs.TipLaws.{at_le}
use Rattle.tree_uses.specs.Marks.{MarksAre, Most, Raised}
use Rattle.tree_uses.proofs.UseSteps.{rows_next, rows_most, uses_next, uses_most}

-- marks to which nothing is added
pub raised_none : (f : ℕ → ℕ) (marks : List ℕ) → ((w : ℕ) → w < 1023 → f w ≡ 0) → Raised f marks marks
raised_none f marks h = record { size = refl; more = λ w i. let none = h w i in omega arith }

-- one use more of u
pub raised_set : (marks : List ℕ) (u : ℕ) → length marks ≡ 1023
    → Raised (λ w. at w 1 u) marks (set marks u (get_or marks u 0 + 1))
raised_set marks u size =
    record {
      size = length-set marks u (get_or marks u 0 + 1);
      more = λ w i. by_eq w u
          (λ e. subst (λ k. get_or (set marks u (get_or marks u 0 + 1)) k 0 ≡ get_or marks k 0 + at k 1 u) (sym e)
          (let here = at_same u 1 u refl in
          let stored = get_or-set_same marks u (get_or marks u 0 + 1) 0 (omega arith) in
          omega arith))
          (λ ne. let none = at_other w 1 u ne in
          let kept = get_or-set_other marks u w (get_or marks u 0 + 1) 0 ne in
          omega arith);
    }

-- no use more of a number that has no entry
pub raised_out : (marks : List ℕ) (u : ℕ) → 1023 ≤ u → Raised (λ w. at w 1 u) marks marks
raised_out marks u h = raised_none (λ w. at w 1 u) marks (λ w i. at_other w 1 u (λ e. omega arith))

-- two additions
pub raised_both : (f g : ℕ → ℕ) (marks mid out : List ℕ) → Raised f marks mid → Raised g mid out
    → Raised (λ w. f w + g w) marks out
raised_both f g marks mid out a b =
    record { size = b.size ∙ a.size; more = λ w i. let one = a.more w i in let two = b.more w i in omega arith }

-- each addition of a use makes an entry at most one greater
pub raised_most : (m u : ℕ) (marks out : List ℕ) → Most m marks → Raised (λ w. at w 1 u) marks out → Most (m + 1) out
raised_most m u marks out h r =
    record {
      size = r.size ∙ h.size;
      low = λ w i. let one = r.more w i in let few = at_le w u in let low = h.low w i in omega arith;
    }

-- marks with no entry above l have none above a greater m
pub most_weak : (m : ℕ) {l : ℕ} (marks : List ℕ) → l ≤ m → Most l marks → Most m marks
most_weak m marks h k = record { size = k.size; low = λ w i. let low = k.low w i in omega arith }

-- counts that are at most m
counted_most : (m : ℕ) (f : ℕ → ℕ) (marks : List ℕ) → MarksAre f marks → ((w : ℕ) → f w ≤ m) → Most m marks
counted_most m f marks c h =
    record { size = c.size; low = λ w i. let same = c.entry w i in let low = h w in omega arith }

-- counts to which more is added
counted_raised : (f g h : ℕ → ℕ) (marks out : List ℕ) → MarksAre f marks → Raised g marks out
    → ((w : ℕ) → h w ≡ f w + g w) → MarksAre h out
counted_raised f g h marks out c r e =
    record {
      size = r.size ∙ c.size;
      entry = λ w i. let more = r.more w i in let same = c.entry w i in let sum = e w in omega arith;
    }

-- the same counts, by other names
pub counted_same : (f g : ℕ → ℕ) (marks : List ℕ) → MarksAre f marks → ((w : ℕ) → g w ≡ f w) → MarksAre g marks
counted_same f g marks c e = record { size = c.size; entry = λ w i. c.entry w i ∙ sym (e w) }

-- marks that are all 0
pub counted_zeros : MarksAre (λ w. 0) (replicate 1023 0)
counted_zeros =
    record { size = length-replicate {A = ℕ} 1023 0; entry = λ w i. get_or-replicate {A = ℕ} 1023 w 0 0 i }

-- the child uses by at most 1,023 nodes are far from the most that an entry holds
pub children_low : (node : ℕ → Node) {v : ℕ} {marks : List ℕ} → MarksAre (child_uses node v) marks → v ≤ 1023
    → Most 65533 marks
children_low node {v} {marks} c h =
    counted_most 65533 _ marks c (λ w. let low = uses_most node v w in omega arith)

-- so are the row uses
pub rows_low : (node : ℕ → Node) (k : Kind) {v : ℕ} {marks : List ℕ} → MarksAre (row_uses k node v) marks → v ≤ 1023
    → Most 65534 marks
rows_low node k {v} {marks} c h =
    counted_most 65534 _ marks c (λ w. let low = rows_most node k v w in omega arith)

-- the uses by the nodes below v are those by all n, once v is n
pub children_end : (node : ℕ → Node) {v n : ℕ} {marks : List ℕ} → v ≤ n → n ≤ v → MarksAre (child_uses node v) marks
    → MarksAre (child_uses node n) marks
children_end node {marks = marks} h i c = subst (λ m. MarksAre (child_uses node m) marks) (le_antisymm h i) c

module _ (node : ℕ → Node) (v : ℕ) (x : Node) (here : x ≡ node v) where
  -- the child uses of one node more
  pub children_counted : (marks out : List ℕ) → MarksAre (child_uses node v) marks
      → Raised (λ w. each (at w 1) (kids_of x)) marks out → MarksAre (child_uses node (v + 1)) out
  children_counted marks out c r =
      counted_raised _ _ (child_uses node (v + 1)) marks out c r
      (λ w. subst (λ y. child_uses node (v + 1) w ≡ child_uses node v w + each (at w 1) (kids_of y)) (sym here)
      (uses_next node v w))

  -- the row uses of one node more
  pub rows_counted : (k : Kind) (marks out : List ℕ) → MarksAre (row_uses k node v) marks
      → Raised (λ w. names k w x) marks out → MarksAre (row_uses k node (v + 1)) out
  rows_counted k marks out c r =
      counted_raised _ _ (row_uses k node (v + 1)) marks out c r
      (λ w. subst (λ y. row_uses k node (v + 1) w ≡ row_uses k node v w + names k w y) (sym here) (rows_next node k v w))

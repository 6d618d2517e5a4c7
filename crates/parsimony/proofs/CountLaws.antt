-- Laws of counting by sets: its equations, that nothing else meets them, the sum of its changes, the meet of two sets.
-- Assumes nothing.
use mathlib.Core.Logic.{inl, inr}
use mathlib.Core.Path.{◌≡◌, refl, ap, sym, ◌∙◌, subst}
use Prim.Native.Nat.{ℕ, suc, ◌+◌, ◌^◌, ◌≤◌, ◌<◌}
use native.Mathlib.Omega.{arith}
use borrow.Author.Tests.{eq-eqb, ne_eqb}
use lib.Bits.{and_lt, or_lt, or_disjoint}
use Rattle.parsimony.specs.Counting.{Counted, tip_count, meet, change, join_counts, counted}
use Rattle.parsimony.specs.StateSet.{bit, Member, union, common}
use Rattle.parsimony.specs.Sum.{sum}
use Rattle.parsimony.specs.Tree.{Kids, tip, two, Has, each, Rooted, merge}
use Rattle.parsimony.proofs.Order.{by_eq, pick_true, pick_false, at_same, at_other, strong}
use Rattle.parsimony.proofs.StateSetLaws.{bit_small, bit_none, empty_none, union_member, common_member}
use Rattle.parsimony.proofs.Sums.{sum_same, sum_add, sum_suc}
use Rattle.parsimony.proofs.TreeLaws.{each_once, ascend_step}

-- C meets the equations of counting: a tip has its cell and no change; an inner node has the meet of its children's
-- sets, their changes and one more where the two sets have no common part.
pub record Counts (last : ℕ) (kids : ℕ → Kids) (cell : ℕ → ℕ) (C : ℕ → Counted) : Type 0 where
  pub tips : (v : ℕ) → v ≤ last → kids v ≡ tip → ((C v).set ≡ cell v) × ((C v).changes ≡ 0)
  pub inner : (v a b : ℕ) → v ≤ last → kids v ≡ two a b
      → ((C v).set ≡ meet (C a).set (C b).set)
      × ((C v).changes ≡ (C a).changes + (C b).changes + change (C a).set (C b).set)

-- the change counted at a node with these children, given each node's set
abbrev pub change_at : (ℕ → ℕ) → Kids → ℕ
change_at set tip = 0
change_at set (two a b) = change (set a) (set b)

module _ (last : ℕ) (kids : ℕ → Kids) (tree : Rooted last kids) (cell : ℕ → ℕ) where
  counted_step : (v : ℕ) → v ≤ last
      → counted kids cell v ≡ merge (kids v) (tip_count cell v) join_counts (counted kids cell)
  unfolding counted
  counted_step v h = ascend_step last kids tree (tip_count cell) join_counts v h

  -- a tip's set is its cell, and it has no change
  pub counted_tip : (v : ℕ) → v ≤ last → kids v ≡ tip
      → ((counted kids cell v).set ≡ cell v) × ((counted kids cell v).changes ≡ 0)
  unfolding tip_count
  counted_tip v h e =
      let q : counted kids cell v ≡ tip_count cell v =
      counted_step v h ∙ ap (λ k. merge k (tip_count cell v) join_counts (counted kids cell)) e in
      (ap (λ c. c.set) q, ap (λ c. c.changes) q)

  -- an inner node's set is the meet of its children's, and its changes are theirs and the one at the node
  pub counted_inner : (v a b : ℕ) → v ≤ last → kids v ≡ two a b
      → ((counted kids cell v).set ≡ meet (counted kids cell a).set (counted kids cell b).set)
      × ((counted kids cell v).changes
      ≡ (counted kids cell a).changes + (counted kids cell b).changes
      + change (counted kids cell a).set (counted kids cell b).set)
  unfolding join_counts
  counted_inner v a b h e =
      let q : counted kids cell v ≡ join_counts (counted kids cell a) (counted kids cell b) =
      counted_step v h ∙ ap (λ k. merge k (tip_count cell v) join_counts (counted kids cell)) e in
      (ap (λ c. c.set) q, ap (λ c. c.changes) q)

  -- counting meets its equations
  pub counted_meets : Counts last kids cell (counted kids cell)
  counted_meets = record { tips = counted_tip; inner = counted_inner }

  -- and nothing else does
  pub counts_unique : (C E : ℕ → Counted) → Counts last kids cell C → Counts last kids cell E
      → (v : ℕ) → v ≤ last → C v ≡ E v
  counts_unique C E h_c h_e = strong (λ v. v ≤ last → C v ≡ E v) go
    where
      both_fields : (c d : Counted) → c.set ≡ d.set → c.changes ≡ d.changes → c ≡ d
      both_fields c d p q = λ i. record { set = p i; changes = q i }

      by_kids : (v : ℕ) → v ≤ last → ((u : ℕ) → Has u (kids v) → C u ≡ E u) → (k : Kids) → kids v ≡ k → C v ≡ E v
      by_kids v h same tip e =
          let p = h_c.tips v h e in
          let q = h_e.tips v h e in
          both_fields (C v) (E v) (p.0 ∙ sym q.0) (p.1 ∙ sym q.1)
      by_kids v h same (two a b) e =
          let p = h_c.inner v a b h e in
          let q = h_e.inner v a b h e in
          let ea = same a (subst (λ k. Has a k) (sym e) (inl refl)) in
          let eb = same b (subst (λ k. Has b k) (sym e) (inr refl)) in
          both_fields (C v) (E v) (cc) (cc)

      go : (v : ℕ) → ((u : ℕ) → u < v → u ≤ last → C u ≡ E u) → v ≤ last → C v ≡ E v
      go v ih h = by_kids v h (λ u c. let b = tree.below h c in ih u b (omega arith)) (kids v) refl

  -- the root's changes are the changes of all nodes
  pub changes_sum : (counted kids cell last).changes
      ≡ sum (λ v. change_at (λ u. (counted kids cell u).set) (kids v)) (suc last)
  changes_sum =
      let f : ℕ → ℕ = λ u. (counted kids cell u).changes in
      let here : ℕ → ℕ = λ v. change_at (λ u. (counted kids cell u).set) (kids v) in
      let below : ℕ → ℕ = λ v. each f (kids v) in
      let nodes : sum f (suc last) ≡ sum (λ v. below v + here v) (suc last) =
      sum_same f (λ v. below v + here v) (suc last) (λ v h. by_kids v (omega arith) (kids v) refl) in
      let parts = sum_add below here (suc last) in
      let once = each_once last kids tree f in
      let top = sum_suc f last in
      omega arith
    where
      by_kids : (v : ℕ) → v ≤ last → (k : Kids) → kids v ≡ k
          → (counted kids cell v).changes
          ≡ each (λ u. (counted kids cell u).changes) k + change_at (λ u. (counted kids cell u).set) k
      by_kids v h tip e = let q = (counted_tip v h e).1 in omega arith
      by_kids v h (two a b) e = let q = (counted_inner v a b h e).1 in omega arith

-- the two cases of the meet: the sets have no common part, or they have one
by_common : {X : Type 0} (a b : ℕ)
    → (common a b ≡ 0 → meet a b ≡ union a b → change a b ≡ 1 → X)
    → ((common a b ≡ 0 → ⊥) → meet a b ≡ common a b → change a b ≡ 0 → X)
    → X
unfolding meet change
by_common a b f g =
    by_eq (common a b) 0
    (λ e. f e (pick_true (union a b) (common a b) (eq-eqb (common a b) 0 e)) (at_same 0 1 (common a b) (sym e)))
    (λ n. g n (pick_false (union a b) (common a b) (ne_eqb (common a b) 0 n))
    (at_other 0 1 (common a b) (λ e. n (sym e))))

-- the meet of two sets of states is one
pub meet_within : (s a b : ℕ) → a < 2 ^ s → b < 2 ^ s → meet a b < 2 ^ s
meet_within s a b ha hb =
    by_common a b (λ z m c. let w = or_lt s a b ha hb in omega arith)
    (λ n m c. let w = and_lt s a b ha hb in omega arith)

-- the meet with a set that is not empty is not empty
pub meet_filled : (a b : ℕ) → 0 < a → 0 < meet a b
meet_filled a b h = by_common a b (λ z m c. let u = or_disjoint a b z in omega arith) (λ n m c. omega arith)

-- no state is in both of two sets without a common part
apart : (a b x : ℕ) → common a b ≡ 0 → Member a x → Member b x → ⊥
apart a b x z p q = empty_none x (subst (λ w. Member w x) z ((common_member a b x).1 (p, q)))

-- a state of the meet is in both sets, or in just one where a change is counted
pub meet_in : (a b x : ℕ) → Member (meet a b) x → bit a x + bit b x + change a b ≡ 2
meet_in a b x h =
    by_common a b
    (λ z m c. elim ((union_member a b x).0 (subst (λ w. Member w x) m h)) [
      | inl p ↦ let q = bit_none b x (apart a b x z p) in omega arith
      | inr q ↦ let p = bit_none a x (λ p. apart a b x z p q) in omega arith
    ])
    (λ n m c. let both = (common_member a b x).0 (subst (λ w. Member w x) m h) in omega arith)

-- a state that is not in the meet is in at most one set, and in none where a change is counted
pub meet_out : (a b x : ℕ) → (Member (meet a b) x → ⊥) → bit a x + bit b x + change a b ≤ 1
meet_out a b x h =
    by_common a b
    (λ z m c. let out : Member (union a b) x → ⊥ = λ u. h (subst (λ w. Member w x) (sym m) u) in
    let p = bit_none a x (λ p. out ((union_member a b x).1 (inl p))) in
    let q = bit_none b x (λ q. out ((union_member a b x).1 (inr q))) in
    omega arith)
    (λ n m c. let out : Member (common a b) x → ⊥ = λ u. h (subst (λ w. Member w x) (sym m) u) in
    by_eq (bit a x) 1 (λ p. let q = bit_none b x (λ q. out ((common_member a b x).1 (p, q))) in omega arith)
    (λ ne. let p = bit_none a x ne in let q = bit_small b x in omega arith))

-- With unit costs counting by sets agrees with the rows: preliminary sets, the score and the root's set.
-- Assumes nothing.
use mathlib.Core.Logic.{inl, inr}
use mathlib.Core.Path.{◌≡◌, refl, ap, sym, ◌∙◌, subst, subst₂}
use Prim.Native.Nat.{ℕ, ◌+◌, ◌^◌, ◌≤◌, ◌<◌}
use native.Mathlib.Omega.{arith}
use borrow.Author.Tests.{eq-eqb, ne_eqb, eqb-true}
use lib.Dec.{eqb}
use Rattle.parsimony.specs.Barred.{barred}
use Rattle.parsimony.specs.Column.{Column, cell_entry}
use Rattle.parsimony.specs.Counting.{meet, change, counted, UnitCosts}
use Rattle.parsimony.specs.Least.{low}
use Rattle.parsimony.specs.NodeSet.{free_set, sets}
use Rattle.parsimony.specs.Row.{through, up, row, score}
use Rattle.parsimony.specs.Sound.{Sound}
use Rattle.parsimony.specs.StateSet.{bit, Member}
use Rattle.parsimony.specs.Tree.{Kids, tip, two, Has}
use Rattle.parsimony.proofs.CountLaws.{counted_tip, counted_inner, meet_within, meet_filled, meet_in, meet_out}
use Rattle.parsimony.proofs.LabelLaws.{through_plain}
use Rattle.parsimony.proofs.LeastLaws.{least_below, least_low, low_within}
use Rattle.parsimony.proofs.Order.{by_eq, pick_true, pick_false, strong}
use Rattle.parsimony.proofs.RowLaws.{up_le, up_low, row_tip}
use Rattle.parsimony.proofs.SetLaws.{sets_meet}
use Rattle.parsimony.proofs.Size.{rows_balance}
use Rattle.parsimony.proofs.StateCountLaws.{gather_member, gather_within}
use Rattle.parsimony.proofs.StateSetLaws.{bit_none, holds_true, holds_false, member_some, set_same}

-- The set W with k changes is right for node v: a set of states, not empty; v's row is k in its states and more
-- elsewhere.
record Right (P : Column) (v W k : ℕ) : Type 0 where
  within : W < 2 ^ P.states
  filled : 0 < W
  inside : (x : ℕ) → x < P.states → Member W x → row P v x ≡ k
  outside : (x : ℕ) → x < P.states → (Member W x → ⊥) → k + 1 ≤ row P v x

-- then no entry of the row is below k
row_least : (P : Column) (v W k : ℕ) → Right P v W k → (x : ℕ) → x < P.states → k ≤ row P v x
row_least P v W k right x hx =
    by_eq (bit W x) 1 (λ m. let e = right.inside x hx m in omega arith)
    (λ n. let e = right.outside x hx n in omega arith)

module _ (most : ℕ) (P : Column) (sound : Sound most P) (unit : UnitCosts P.states P.cost) where
  cost_same : (x : ℕ) → x < P.states → P.cost x x ≡ 0
  cost_same x hx = unit x x hx hx ∙ pick_true 0 1 (eq-eqb x x refl)

  cost_other : (x y : ℕ) → x < P.states → y < P.states → (x ≡ y → ⊥) → P.cost x y ≡ 1
  cost_other x y hx hy ne = unit x y hx hy ∙ pick_false 0 1 (ne_eqb x y ne)

  -- the least up the edge to u is k under a state of u's set, and k + 1 under any other
  up_right : (p u W k x : ℕ) → p ≤ P.last → Has u (P.kids p) → Right P u W k → x < P.states
      → up P (row P u) x + bit W x ≡ k + 1
  up_right p u W k x h c right hx =
      let y = low (through P (row P u) x) P.states in
      let hy : y < P.states = low_within (through P (row P u) x) P.states sound.states in
      let reach : P.cost x y + row P u y ≡ up P (row P u) x =
      through_plain most P sound p u x y h c hx (sym (up_low P (row P u) x)) in
      let least = row_least P u W k right y hy in
      by_eq (bit W x) 1
      (λ m. let here = right.inside x hx m in
      let free = cost_same x hx in
      let above = up_le P (row P u) x x hx in
      omega arith)
      (λ n. let (z, hz, m) = member_some P.states W right.within right.filled in
      let there = right.inside z hz m in
      let one = cost_other x z hx hz (λ e. n (ap (bit W) e ∙ m)) in
      let above = up_le P (row P u) x z hz in
      let none = bit_none W x n in
      by_eq x y (λ e. let same = ap (row P u) e in let more = right.outside x hx n in omega arith)
      (λ ne. let more = cost_other x y hx hy ne in omega arith))

  -- what the children's sets say of an inner node's
  inner_right : (v a b A B j k : ℕ) → v ≤ P.last → P.kids v ≡ two a b → Right P a A j → Right P b B k
      → Right P v (meet A B) (j + k + change A B)
  inner_right v a b A B j k h e ra rb =
      record {
        within = meet_within P.states A B ra.within rb.within;
        filled = meet_filled A B ra.filled;
        inside = λ x hx m. let s = entry x hx in let t = meet_in A B x m in omega arith;
        outside = λ x hx n. let s = entry x hx in let t = meet_out A B x n in omega arith;
      }
    where
      entry : (x : ℕ) → x < P.states → row P v x + bit A x + bit B x ≡ j + k + 2
      entry x hx =
          let r = (rows_balance most P sound).inner v a b x h e hx in
          let ua = up_right v a A j x h (subst (λ k. Has a k) (sym e) (inl refl)) ra hx in
          let ub = up_right v b B k x h (subst (λ k. Has b k) (sym e) (inr refl)) rb hx in
          omega arith

module _ (most : ℕ) (P : Column) (sound : Sound most P) (unit : UnitCosts P.states P.cost) (cell : ℕ → ℕ)
    (tip_rows : (v x : ℕ) → v ≤ P.last → P.kids v ≡ tip → x < P.states → P.entry v x ≡ cell_entry (cell v) x)
    (filled : (v : ℕ) → v ≤ P.last → P.kids v ≡ tip → 0 < cell v)
    (bits : (v : ℕ) → v ≤ P.last → P.kids v ≡ tip → cell v < 2 ^ P.states) where
  tip_right : (v : ℕ) → v ≤ P.last → P.kids v ≡ tip → Right P v (cell v) 0
  unfolding cell_entry
  tip_right v h e =
      record {
        within = bits v h e;
        filled = filled v h e;
        inside = λ x hx m. entry x hx ∙ pick_true 0 barred (holds_true (cell v) x m);
        outside = λ x hx n.
            let r : row P v x ≡ barred = entry x hx ∙ pick_false 0 barred (holds_false (cell v) x n) in
            omega arith;
      }
    where
      entry : (x : ℕ) → x < P.states → row P v x ≡ cell_entry (cell v) x
      entry x hx = row_tip P sound.tree v x h e ∙ tip_rows v x h e hx

  prelim : (v : ℕ) → v ≤ P.last → Right P v (counted P.kids cell v).set (counted P.kids cell v).changes
  prelim = strong _ go
    where
      Good : ℕ → Type 0
      Good v = Right P v (counted P.kids cell v).set (counted P.kids cell v).changes

      by_kids : (v : ℕ) → v ≤ P.last → ((u : ℕ) → Has u (P.kids v) → Good u) → (k : Kids) → P.kids v ≡ k → Good v
      by_kids v h sub tip e =
          let (s, n) = counted_tip P.last P.kids sound.tree cell v h e in
          subst₂ (Right P v) (sym s) (sym n) (tip_right v h e)
      by_kids v h sub (two a b) e =
          let (s, n) = counted_inner P.last P.kids sound.tree cell v a b h e in
          let ra = sub a (subst (λ k. Has a k) (sym e) (inl refl)) in
          let rb = sub b (subst (λ k. Has b k) (sym e) (inr refl)) in
          subst₂ (Right P v) (sym s) (sym n) (inner_right most P sound unit v a b _ _ _ _ h e ra rb)

      go : (v : ℕ) → ((u : ℕ) → u < v → u ≤ P.last → Good u) → v ≤ P.last → Good v
      go v ih h = by_kids v h (λ u c. let b = sound.tree.below h c in ih u b (omega arith)) (P.kids v) refl

  -- a preliminary set is a set of states
  pub prelim_within : (v : ℕ) → v ≤ P.last → (counted P.kids cell v).set < 2 ^ P.states
  prelim_within v h = (prelim v h).within

  -- it is not empty
  pub prelim_filled : (v : ℕ) → v ≤ P.last → 0 < (counted P.kids cell v).set
  prelim_filled v h = (prelim v h).filled

  -- in its states the node's row is the count of changes
  pub prelim_row : (v x : ℕ) → v ≤ P.last → x < P.states → Member (counted P.kids cell v).set x
      → row P v x ≡ (counted P.kids cell v).changes
  prelim_row v x h hx m = (prelim v h).inside x hx m

  -- in any other state the row is more
  pub prelim_not : (v x : ℕ) → v ≤ P.last → x < P.states → (Member (counted P.kids cell v).set x → ⊥)
      → (counted P.kids cell v).changes + 1 ≤ row P v x
  prelim_not v x h hx n = (prelim v h).outside x hx n

  -- the changes counted at the root are the score
  pub count_score : (counted P.kids cell P.last).changes ≡ score P
  unfolding score
  count_score =
      let root = prelim P.last (omega arith) in
      let (x, hx, m) = member_some P.states _ root.within root.filled in
      let here = root.inside x hx m in
      let above = least_below (row P P.last) P.states x hx in
      let reach = least_low (row P P.last) P.states in
      let least = row_least P P.last _ _ root (low (row P P.last) P.states)
      (low_within (row P P.last) P.states sound.states) in
      omega arith

  -- the root's set holds the states at which its row is least
  pub count_root : (counted P.kids cell P.last).set ≡ free_set P
  unfolding free_set
  count_root =
      let root = prelim P.last (omega arith) in
      set_same P.states _ (free_set P) root.within (gather_within _ P.states)
      (λ x hx. let test = gather_member (λ y. eqb (row P P.last y) (score P)) P.states x in (
        (λ m. test.1 (hx, eq-eqb _ _ (root.inside x hx m ∙ count_score))),
        (λ m. by_eq (bit (counted P.kids cell P.last).set x) 1 (λ e. e)
            (λ n. let more = root.outside x hx n in
            let same = eqb-true (row P P.last x) (score P) (test.0 m).1 in
            let s = count_score in
            absurd (omega arith))),
      ))

  -- and is the root's node set
  pub count_sets : (counted P.kids cell P.last).set ≡ sets P P.last
  unfolding sets free_set
  count_sets = count_root ∙ sym (sets_meet most P sound (free_set P) (gather_within _ P.states)).root

-- The node sets from a start set hold exactly the states that tight labellings take.
-- Assumes nothing.
use mathlib.Core.Bool.{Bool}
use mathlib.Core.Logic.{◌↔◌}
use mathlib.Core.Path.{◌≡◌, refl, ap, sym, ◌∙◌, subst}
use Prim.Native.Nat.{ℕ, suc, ◌+◌, ◌^◌, ◌≤◌, ◌<◌}
use native.Mathlib.Omega.{arith}
use borrow.Author.Tests.{eq-eqb, ne_eqb, eqb-true}
use lib.Dec.{eqb}
use Rattle.parsimony.specs.Column.{Column}
use Rattle.parsimony.specs.Label.{choose, label_from}
use Rattle.parsimony.specs.NodeSet.{reaches, child_set, sets_from}
use Rattle.parsimony.specs.Row.{through, up, row}
use Rattle.parsimony.specs.Sound.{Sound}
use Rattle.parsimony.specs.StateSet.{Member, holds, gather}
use Rattle.parsimony.specs.Test.{pick, both, some}
use Rattle.parsimony.specs.Tie.{rule_in_use}
use Rattle.parsimony.specs.Tree.{Has, Descent, parent, descend}
use Rattle.parsimony.proofs.LabelLaws.{
  TightLabels,
  States,
  through_plain,
  plain_through,
  choose_state,
  choose_reaches,
  label_meets,
  label_states,
  label_tight,
}
use Rattle.parsimony.proofs.Order.{by_lt, by_eq, pick_true, pick_false, downward}
use Rattle.parsimony.proofs.StateCountLaws.{
  gather_member,
  gather_within,
  some_true,
  some_here,
  both_left,
  both_right,
  both_true,
}
use Rattle.parsimony.proofs.StateSetLaws.{holds_true, holds_member, member_within}
use Rattle.parsimony.proofs.TieLaws.{in_use}
use Rattle.parsimony.proofs.TreeLaws.{parent_has, parent_is, parent_unique, descend_meets}

-- a child's set holds y exactly when y reaches the least under some state of the parent's set
pub child_member : (P : Column) (r : ℕ → ℕ) (w y : ℕ)
    → Member (child_set P r w) y
    ↔ ((y < P.states) × ((x : ℕ) × (x < P.states) × Member w x × (through P r x y ≡ up P r x)))
unfolding child_set reaches
child_member P r w y = (to, from)
  where
    test : ℕ → ℕ → Bool
    test y x = both (holds w x) (eqb (through P r x y) (up P r x))

    to : Member (gather (λ y. some (test y) P.states) P.states) y
        → (y < P.states) × ((x : ℕ) × (x < P.states) × Member w x × (through P r x y ≡ up P r x))
    to m =
        let (hy, found) = (gather_member (λ y. some (test y) P.states) P.states y).0 m in
        let (x, hx, both_hold) = some_true (test y) P.states found in (
          hy,
          (
            x,
            hx,
            holds_member w x (both_left (holds w x) (eqb (through P r x y) (up P r x)) both_hold),
            eqb-true (through P r x y) (up P r x) (both_right (holds w x) (eqb (through P r x y) (up P r x)) both_hold),
          ),
        )

    from : (y < P.states) × ((x : ℕ) × (x < P.states) × Member w x × (through P r x y ≡ up P r x))
        → Member (gather (λ y. some (test y) P.states) P.states) y
    from (hy, (x, hx, mx, e)) =
        (gather_member (λ y. some (test y) P.states) P.states y).1 (
          hy,
          some_here (test y) P.states x hx
              (both_true (holds w x) (eqb (through P r x y) (up P r x)) (holds_true w x mx)
              (eq-eqb (through P r x y) (up P r x) e)),
        )

-- a tight labelling whose root is in the start set w and which takes y at node v
pub record TightAt (P : Column) (w v y : ℕ) : Type 0 where
  pub labels : ℕ → ℕ
  pub states : States P labels
  pub tight : TightLabels P labels
  pub root : Member w (labels P.last)
  pub takes : labels v ≡ y

module _ (most : ℕ) (P : Column) (sound : Sound most P) where
  -- the labelling that keeps l above node v, takes y there and chooses afresh where its parent's state is not l's
  turn : (l : ℕ → ℕ) (v y : ℕ) → ℕ → ℕ → ℕ
  turn l v y u x =
      pick (eqb u v) y
      (pick (eqb x (l (parent P.kids (suc P.last) u))) (l u) (choose rule_in_use P (row P u) x))

  turned : (l : ℕ → ℕ) (v y : ℕ) → ℕ → ℕ
  turned l v y = descend P.last P.kids (turn l v y) (l P.last)

  module _ (l : ℕ → ℕ) (states : States P l) (tight : TightLabels P l) (p v y : ℕ) (hp : p ≤ P.last)
      (c : Has v (P.kids p)) (hy : y < P.states) (reach : through P (row P v) (l p) y ≡ up P (row P v) (l p)) where
    meets : Descent P.last P.kids (turn l v y) (l P.last) (turned l v y)
    unfolding turned
    meets = descend_meets P.last P.kids sound.tree (turn l v y) (l P.last)

    turn_here : (x : ℕ) → turn l v y v x ≡ y
    unfolding turn
    turn_here x = pick_true y _ (eq-eqb v v refl)

    turn_kept : (q u x : ℕ) → q ≤ P.last → Has u (P.kids q) → (u ≡ v → ⊥) → x ≡ l q → turn l v y u x ≡ l u
    unfolding turn
    turn_kept q u x hq cq ne e =
        pick_false y _ (ne_eqb u v ne)
        ∙ pick_true (l u) _ (eq-eqb _ _ (e ∙ ap l (sym (parent_is P.last P.kids sound.tree q u hq cq))))

    turn_fresh : (q u x : ℕ) → q ≤ P.last → Has u (P.kids q) → (u ≡ v → ⊥) → (x ≡ l q → ⊥)
        → turn l v y u x ≡ choose rule_in_use P (row P u) x
    unfolding turn
    turn_fresh q u x hq cq ne no_match =
        pick_false y _ (ne_eqb u v ne)
        ∙ pick_false (l u) _
        (ne_eqb _ _ (λ e. no_match (e ∙ ap l (parent_is P.last P.kids sound.tree q u hq cq))))

    above : (q : ℕ) → q ≤ P.last → v < q → turned l v y q ≡ l q
    above = downward P.last (λ q. v < q → turned l v y q ≡ l q) go
      where
        go : (q : ℕ) → q ≤ P.last → ((r : ℕ) → q < r → r ≤ P.last → v < r → turned l v y r ≡ l r)
            → v < q → turned l v y q ≡ l q
        go q h ih k =
            by_lt q P.last
            (λ m. let (r, hr, cr) = parent_has P.last P.kids sound.tree q m in
            let b = sound.tree.below hr cr in
            meets.edge hr cr ∙ turn_kept r q _ hr cr (λ e. omega arith) (ih r b hr (omega arith)))
            (λ m. let e : q ≡ P.last = omega arith in
            ap (turned l v y) e ∙ meets.root ∙ ap l (sym e))

    turned_takes : turned l v y v ≡ y
    turned_takes = meets.edge hp c ∙ turn_here (turned l v y p)

    turned_states : States P (turned l v y)
    turned_states q h =
        by_lt q P.last
        (λ m. let (r, hr, cr) = parent_has P.last P.kids sound.tree q m in
        subst (λ z. z < P.states) (sym (meets.edge hr cr)) (give r q hr cr))
        (λ m. let e : q ≡ P.last = omega arith in
        subst (λ z. z < P.states) (sym (ap (turned l v y) e ∙ meets.root)) (states P.last (omega arith)))
      where
        give : (r q : ℕ) → r ≤ P.last → Has q (P.kids r) → turn l v y q (turned l v y r) < P.states
        give r q hr cr =
            let b = sound.tree.below hr cr in
            by_eq q v
            (λ e. subst (λ u. turn l v y u (turned l v y r) < P.states) (sym e)
            (subst (λ z. z < P.states) (sym (turn_here (turned l v y r))) hy))
            (λ ne. by_eq (turned l v y r) (l r)
            (λ e. subst (λ z. z < P.states) (sym (turn_kept r q (turned l v y r) hr cr ne e)) (states q (omega arith)))
            (λ no_match. subst (λ z. z < P.states) (sym (turn_fresh r q (turned l v y r) hr cr ne no_match))
            (choose_state most P sound rule_in_use in_use q (turned l v y r))))

    turned_tight : TightLabels P (turned l v y)
    turned_tight r q hr cr =
        by_eq q v
        (λ e. let same : r ≡ p =
        parent_unique P.last P.kids sound.tree r p v hr hp (subst (λ u. Has u (P.kids r)) e cr) c in
        let b = sound.tree.below hp c in
        let lr : turned l v y r ≡ l p = ap (turned l v y) same ∙ above p hp b in
        let lq : turned l v y q ≡ y = ap (turned l v y) e ∙ turned_takes in
        let goal : P.cost (l p) y + row P v y ≡ up P (row P v) (l p) =
        through_plain most P sound p v (l p) y hp c (states p hp) reach in
        subst
        (λ u. P.cost (turned l v y r) (turned l v y q) + row P u (turned l v y q) ≡ up P (row P u) (turned l v y r))
        (sym e)
        (subst (λ z. P.cost z (turned l v y q) + row P v (turned l v y q) ≡ up P (row P v) z) (sym lr)
        (subst (λ z. P.cost (l p) z + row P v z ≡ up P (row P v) (l p)) (sym lq) goal)))
        (λ ne. by_eq (turned l v y r) (l r)
        (λ e. let lq : turned l v y q ≡ l q = meets.edge hr cr ∙ turn_kept r q (turned l v y r) hr cr ne e in
        subst (λ z. P.cost z (turned l v y q) + row P q (turned l v y q) ≡ up P (row P q) z) (sym e)
        (subst (λ z. P.cost (l r) z + row P q z ≡ up P (row P q) (l r)) (sym lq) (tight r q hr cr)))
        (λ no_match. let lq : turned l v y q ≡ choose rule_in_use P (row P q) (turned l v y r) =
        meets.edge hr cr ∙ turn_fresh r q (turned l v y r) hr cr ne no_match in
        through_plain most P sound r q (turned l v y r) (turned l v y q) hr cr (turned_states r hr)
        (ap (through P (row P q) (turned l v y r)) lq
        ∙ choose_reaches most P sound rule_in_use in_use q (turned l v y r))))

  module _ (w : ℕ) (hw : w < 2 ^ P.states) where
    -- the sets from a start set meet their equations
    pub sets_meet : Descent P.last P.kids (λ u. child_set P (row P u)) w (sets_from P w)
    unfolding sets_from
    sets_meet = descend_meets P.last P.kids sound.tree (λ u. child_set P (row P u)) w

    -- they are sets of states
    pub sets_within : (v : ℕ) → v ≤ P.last → sets_from P w v < 2 ^ P.states
    unfolding child_set
    sets_within v h =
        by_lt v P.last
        (λ m. let (p, hp, c) = parent_has P.last P.kids sound.tree v m in
        subst (λ z. z < 2 ^ P.states) (sym (sets_meet.edge hp c)) (gather_within _ P.states))
        (λ m. let e : v ≡ P.last = omega arith in
        subst (λ z. z < 2 ^ P.states) (sym (ap (sets_from P w) e ∙ sets_meet.root)) hw)

    -- each state of a set is taken by some tight labelling
    pub sets_taken : (v y : ℕ) → v ≤ P.last → Member (sets_from P w v) y → TightAt P w v y
    sets_taken v y h m = downward P.last (λ v. (y : ℕ) → Member (sets_from P w v) y → TightAt P w v y) go v h y m
      where
        go : (v : ℕ) → v ≤ P.last
            → ((q : ℕ) → v < q → q ≤ P.last → (y : ℕ) → Member (sets_from P w q) y → TightAt P w q y)
            → (y : ℕ) → Member (sets_from P w v) y → TightAt P w v y
        go v h ih y m =
            by_lt v P.last
            (λ k. let (p, hp, c) = parent_has P.last P.kids sound.tree v k in
            let b = sound.tree.below hp c in
            let (hy, (x, hx, mx, reach)) = (child_member P (row P v) (sets_from P w p) y).0
            (subst (λ z. Member z y) (sets_meet.edge hp c) m) in
            let above_v : TightAt P w p x = ih p b hp x mx in
            let l = above_v.labels in
            let reach_l : through P (row P v) (l p) y ≡ up P (row P v) (l p) =
            subst (λ z. through P (row P v) z y ≡ up P (row P v) z) (sym above_v.takes) reach in
            record {
              labels = turned l v y;
              states = turned_states l above_v.states above_v.tight p v y hp c hy reach_l;
              tight = turned_tight l above_v.states above_v.tight p v y hp c hy reach_l;
              root = subst (λ z. Member w z)
                  (sym (meets l above_v.states above_v.tight p v y hp c hy reach_l).root) above_v.root;
              takes = turned_takes l above_v.states above_v.tight p v y hp c hy reach_l;
            })
            (λ k. let e : v ≡ P.last = omega arith in
            let my : Member w y = subst (λ z. Member z y) (ap (sets_from P w) e ∙ sets_meet.root) m in
            let hy = member_within P.states w y hw my in
            record {
              labels = label_from rule_in_use P y;
              states = label_states most P sound rule_in_use in_use y hy;
              tight = label_tight most P sound rule_in_use in_use y hy;
              root = subst (λ z. Member w z) (sym (label_meets most P sound rule_in_use in_use y).root) my;
              takes = ap (label_from rule_in_use P y) e ∙ (label_meets most P sound rule_in_use in_use y).root;
            })

    -- and each state that a tight labelling takes is in the set
    pub taken_sets : (v y : ℕ) → v ≤ P.last → TightAt P w v y → Member (sets_from P w v) y
    taken_sets v y h t =
        subst (λ z. Member (sets_from P w v) z) t.takes
        (downward P.last (λ v. Member (sets_from P w v) (t.labels v)) go v h)
      where
        go : (v : ℕ) → v ≤ P.last → ((q : ℕ) → v < q → q ≤ P.last → Member (sets_from P w q) (t.labels q))
            → Member (sets_from P w v) (t.labels v)
        go v h ih =
            by_lt v P.last
            (λ k. let (p, hp, c) = parent_has P.last P.kids sound.tree v k in
            let b = sound.tree.below hp c in
            subst (λ z. Member z (t.labels v)) (sym (sets_meet.edge hp c))
            ((child_member P (row P v) (sets_from P w p) (t.labels v)).1 (
              t.states v h,
              (
                t.labels p,
                t.states p hp,
                ih p b hp,
                plain_through most P sound p v (t.labels p) (t.labels v) hp c (t.states p hp) (t.tight p v hp c),
              ),
            )))
            (λ k. let e : v ≡ P.last = omega arith in
            subst (λ z. Member z (t.labels v)) (sym (ap (sets_from P w) e ∙ sets_meet.root))
            (subst (λ z. Member w (t.labels z)) (sym e) t.root))

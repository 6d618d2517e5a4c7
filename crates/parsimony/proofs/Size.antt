-- The size of rows: no sum that a row needs reaches the barred entry.
-- Assumes nothing.
use mathlib.Core.Logic.{◌⊎◌, inl, inr, ⊎_elim}
use mathlib.Core.Path.{◌≡◌, refl, ap, sym, ◌∙◌, subst}
use Prim.Native.Nat.{ℕ, zero, suc, ◌+◌, ◌*◌, ◌≤◌, ◌<◌}
use native.Mathlib.Nat.{mul-le-mul, suc-mul, le_trans, le_refl}
use native.Mathlib.Omega.{arith}
use Rattle.parsimony.specs.Barred.{barred}
use Rattle.parsimony.specs.Column.{Column}
use Rattle.parsimony.specs.Labelling.{cost_below, cost_of}
use Rattle.parsimony.specs.Row.{up, row}
use Rattle.parsimony.specs.Sound.{Sound}
use Rattle.parsimony.specs.Sum.{sum}
use Rattle.parsimony.specs.Tree.{Kids, tip, two, Has, each, Rooted, merge, ascend}
use Rattle.parsimony.proofs.BarredLaws.{plus_le, plus_open}
use Rattle.parsimony.proofs.Order.{by_lt, strong, downward}
use Rattle.parsimony.proofs.RowLaws.{up_le, row_tip, row_inner}
use Rattle.parsimony.proofs.Slack.{Balanced, tight_cost}
use Rattle.parsimony.proofs.Sums.{sum_same, sum_le}
use Rattle.parsimony.proofs.TreeLaws.{each_once, ascend_step, parent_has}

-- the largest entry that node v's row can have: most at a tip, and 999 for each edge
pub bound : (ℕ → Kids) → ℕ → ℕ → ℕ
bound kids most v = ascend kids (λ u. most) (λ a b. (999 + a) + (999 + b)) v

sum_const : (k n : ℕ) → sum (λ i. k) n ≡ n * k
unfolding sum
sum_const k zero = sym (native.Mathlib.Nat.zero-mul k)
sum_const k (suc n) = let r = sum_const k n in let s = suc-mul n k in omega arith

module _ (last most : ℕ) (kids : ℕ → Kids) (tree : Rooted last kids) where
  bound_step : (v : ℕ) → v ≤ last
      → bound kids most v ≡ merge (kids v) most (λ a b. (999 + a) + (999 + b)) (bound kids most)
  unfolding bound
  bound_step v h = ascend_step last kids tree (λ u. most) (λ a b. (999 + a) + (999 + b)) v h

  pub bound_tip : (v : ℕ) → v ≤ last → kids v ≡ tip → bound kids most v ≡ most
  bound_tip v h e = bound_step v h ∙ ap (λ k. merge k most (λ a b. (999 + a) + (999 + b)) (bound kids most)) e

  pub bound_inner : (v a b : ℕ) → v ≤ last → kids v ≡ two a b
      → bound kids most v ≡ (999 + bound kids most a) + (999 + bound kids most b)
  bound_inner v a b h e = bound_step v h ∙ ap (λ k. merge k most (λ a b. (999 + a) + (999 + b)) (bound kids most)) e

  -- a child's bound and an edge fit in its parent's
  pub bound_child : (p u : ℕ) → p ≤ last → Has u (kids p) → 999 + bound kids most u ≤ bound kids most p
  bound_child p u h c = by_kids (kids p) refl c
    where
      by_kids : (k : Kids) → kids p ≡ k → Has u k → 999 + bound kids most u ≤ bound kids most p
      by_kids tip e c = absurd c
      by_kids (two a b) e (inl q) = let i = bound_inner p a b h e in let s = ap (bound kids most) q in omega arith
      by_kids (two a b) e (inr q) = let i = bound_inner p a b h e in let s = ap (bound kids most) q in omega arith

  -- so every bound is at most the root's
  pub bound_root : (v : ℕ) → v ≤ last → bound kids most v ≤ bound kids most last
  bound_root = downward last _ go
    where
      go : (v : ℕ) → v ≤ last → ((w : ℕ) → v < w → w ≤ last → bound kids most w ≤ bound kids most last)
          → bound kids most v ≤ bound kids most last
      go v h ih =
          by_lt v last
          (λ k. let (p, hp, c) = parent_has last kids tree v k in
          let b = tree.below hp c in
          let r = ih p b hp in
          let q = bound_child p v hp c in
          omega arith)
          (λ k. let e : v ≡ last = omega arith in let q = ap (bound kids most) e in omega arith)

  -- the column of one state in which every edge costs 999 and every tip most
  dearest : Column
  dearest = record { last = last; kids = kids; states = 1; cost = λ x y. 999; entry = λ v x. most }

  -- the root's bound is the cost of that column's one labelling
  bound_cost : bound kids most last ≡ cost_of dearest (λ v. 0)
  unfolding dearest
  bound_cost =
      sym
      (tight_cost dearest tree (λ v x. bound kids most v) (λ u x. 999 + bound kids most u)
      (record {
        tips = λ v x h e. bound_tip v h e;
        inner = λ v a b x h e k. bound_inner v a b h e;
        under = λ u x y h k m. le_refl (999 + bound kids most u);
      })
      (λ v. 0) (λ v h. omega arith) (λ p u h c. refl))

  -- the root's bound, roughly: most and two edges for each node
  pub bound_rough : bound kids most last ≤ suc last * (most + 1998)
  unfolding cost_of dearest
  bound_rough =
      le_trans (native.Mathlib.Nat.le_of_eq bound_cost)
      (le_trans
      (sum_le (λ v. cost_below dearest (λ v. 0) v (kids v)) (λ v. most + 1998) (suc last) (λ v h. at_kids v (kids v)))
      (native.Mathlib.Nat.le_of_eq (sum_const (most + 1998) (suc last))))
    where
      at_kids : (v : ℕ) (k : Kids) → cost_below dearest (λ v. 0) v k ≤ most + 1998
      at_kids v tip = omega arith
      at_kids v (two a b) = omega arith

-- the root's bound where tips add nothing: 999 for each edge
pub bound_edges : (last : ℕ) (kids : ℕ → Kids) → Rooted last kids → bound kids 0 last ≡ last * 999
unfolding cost_of dearest
bound_edges last kids tree =
    bound_cost last 0 kids tree
    ∙ sum_same (λ v. cost_below (dearest last 0 kids tree) (λ v. 0) v (kids v))
    (λ v. each (λ u. 999) (kids v)) (suc last)
    (λ v h. at_kids v (kids v))
    ∙ sym (each_once last kids tree (λ u. 999))
    ∙ sum_const 999 last
  where
    at_kids : (v : ℕ) (k : Kids) → cost_below (dearest last 0 kids tree) (λ v. 0) v k ≡ each (λ u. 999) k
    at_kids v tip = refl
    at_kids v (two a b) = refl

module _ (most : ℕ) (P : Column) (sound : Sound most P) where
  -- the root's bound is below the barred entry
  pub bound_fits : bound P.kids most P.last < barred
  bound_fits =
      let rough = bound_rough P.last most P.kids sound.tree in
      let n : suc P.last ≤ 1023 = sound.nodes in
      let m : most + 1998 ≤ 1022976 = let l = sound.little in omega arith in
      let product : suc P.last * (most + 1998) ≤ 1023 * 1022976 = mul-le-mul n m in
      omega arith

  up_small : (u x : ℕ) → x < P.states → ((y : ℕ) × (y < P.states) × (row P u y ≤ bound P.kids most u))
      → up P (row P u) x ≤ 999 + bound P.kids most u
  up_small u x hx (y, hy, small) =
      let a = up_le P (row P u) x y hy in
      let c = sound.cheap x y hx hy in
      omega arith

  inner_small : (v a b x : ℕ) → v ≤ P.last → P.kids v ≡ two a b → x < P.states
      → ((y : ℕ) × (y < P.states) × (row P a y ≤ bound P.kids most a))
      → ((y : ℕ) × (y < P.states) × (row P b y ≤ bound P.kids most b))
      → row P v x ≤ bound P.kids most v
  inner_small v a b x h e hx oa ob =
      let r = row_inner P sound.tree v a b x h e in
      let s = plus_le (up P (row P a) x) (up P (row P b) x) in
      let ua = up_small a x hx oa in
      let ub = up_small b x hx ob in
      let i = bound_inner P.last most P.kids sound.tree v a b h e in
      omega arith

  -- in each row some entry is not barred and is within the bound
  pub row_open : (v : ℕ) → v ≤ P.last → (y : ℕ) × (y < P.states) × (row P v y ≤ bound P.kids most v)
  row_open v h = strong (λ v. v ≤ P.last → (y : ℕ) × (y < P.states) × (row P v y ≤ bound P.kids most v)) go v h
    where
      by_kids : (v : ℕ) → v ≤ P.last
          → ((u : ℕ) → u < v → u ≤ P.last → (y : ℕ) × (y < P.states) × (row P u y ≤ bound P.kids most u))
          → (k : Kids) → P.kids v ≡ k → (y : ℕ) × (y < P.states) × (row P v y ≤ bound P.kids most v)
      by_kids v h ih tip e =
          let (x, hx, nb) = sound.unbarred v h e in
          let r = row_tip P sound.tree v x h e in
          let b = bound_tip P.last most P.kids sound.tree v h e in
          (x, hx, ⊎_elim (λ small. omega arith) (λ bar. absurd (nb bar)) (sound.range v x h e hx))
      by_kids v h ih (two a b) e =
          let ba = sound.tree.below h (subst (λ k. Has a k) (sym e) (inl refl)) in
          let bb = sound.tree.below h (subst (λ k. Has b k) (sym e) (inr refl)) in
          (0, sound.states, inner_small v a b 0 h e sound.states (ih a ba (omega arith)) (ih b bb (omega arith)))

      go : (v : ℕ)
          → ((u : ℕ) → u < v → u ≤ P.last → (y : ℕ) × (y < P.states) × (row P u y ≤ bound P.kids most u))
          → v ≤ P.last → (y : ℕ) × (y < P.states) × (row P v y ≤ bound P.kids most v)
      go v ih h = by_kids v h ih (P.kids v) refl

  -- an entry of an inner node is within the bound, so it is not barred
  pub row_bound : (v a b x : ℕ) → v ≤ P.last → P.kids v ≡ two a b → x < P.states
      → row P v x ≤ bound P.kids most v
  row_bound v a b x h e hx =
      let ba = sound.tree.below h (subst (λ k. Has a k) (sym e) (inl refl)) in
      let bb = sound.tree.below h (subst (λ k. Has b k) (sym e) (inr refl)) in
      inner_small v a b x h e hx (row_open a (omega arith)) (row_open b (omega arith))

  -- the least up an edge is within the bound of the child and the edge
  pub up_bound : (u x : ℕ) → u ≤ P.last → x < P.states → up P (row P u) x ≤ 999 + bound P.kids most u
  up_bound u x h hx = up_small u x hx (row_open u h)

  -- the least up an edge is not barred
  pub up_open : (p u x : ℕ) → p ≤ P.last → Has u (P.kids p) → x < P.states → up P (row P u) x < barred
  up_open p u x h c hx =
      let b = sound.tree.below h c in
      let s = up_bound u x (omega arith) hx in
      let q = bound_child P.last most P.kids sound.tree p u h c in
      let r = bound_root P.last most P.kids sound.tree p h in
      let f = bound_fits in
      omega arith

  -- an entry of any row is within the bound or, at a tip, barred
  pub row_range : (v x : ℕ) → v ≤ P.last → x < P.states
      → (row P v x ≤ bound P.kids most v) ⊎ ((P.kids v ≡ tip) × (row P v x ≡ barred))
  row_range v x h hx = by_kids (P.kids v) refl
    where
      by_kids : (k : Kids) → P.kids v ≡ k
          → (row P v x ≤ bound P.kids most v) ⊎ ((P.kids v ≡ tip) × (row P v x ≡ barred))
      by_kids tip e =
          let r = row_tip P sound.tree v x h e in
          let b = bound_tip P.last most P.kids sound.tree v h e in
          ⊎_elim (λ small. inl (omega arith)) (λ bar. inr (e, r ∙ bar)) (sound.range v x h e hx)
      by_kids (two a b) e = inl (row_bound v a b x h e hx)

  -- rows and the least up an edge balance, as plain numbers
  pub rows_balance : Balanced P (row P) (λ u. up P (row P u))
  rows_balance =
      record {
        tips = λ v x h e. row_tip P sound.tree v x h e;
        inner = λ v a b x h e hx.
            let ka : Has a (P.kids v) = subst (λ k. Has a k) (sym e) (inl refl) in
            let kb : Has b (P.kids v) = subst (λ k. Has b k) (sym e) (inr refl) in
            let oa = up_open v a x h ka hx in
            let ob = up_open v b x h kb hx in
            row_inner P sound.tree v a b x h e
            ∙ plus_open (up P (row P a) x) (up P (row P b) x) (λ q. omega arith) (λ q. omega arith);
        under = λ u x y h hx hy. up_le P (row P u) x y hy;
      }

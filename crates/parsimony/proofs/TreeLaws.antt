-- Laws of trees: each node is met once, the parent is one node, and work up and down meets its equations.
-- Assumes nothing.
use mathlib.Core.Bool.{true, false}
use mathlib.Core.Logic.{inl, inr, ⊎_elim}
use mathlib.Core.Path.{◌≡◌, refl, ap, ap₂, sym, ◌∙◌, subst}
use Prim.Native.Nat.{ℕ, zero, suc, ◌+◌, ◌*◌, ◌≤◌, ◌<◌}
use native.Mathlib.Nat.{mul-one, mul-zero, mul-add, not-suc-le-zero}
use native.Mathlib.Omega.{arith}
use borrow.Author.Tests.{eq-eqb, ne_eqb}
use lib.Dec.{eqb}
use Rattle.parsimony.specs.Sum.{sum}
use Rattle.parsimony.specs.Test.{at, pick}
use Rattle.parsimony.specs.Tree.{
  Kids,
  tip,
  two,
  Has,
  each,
  uses,
  Rooted,
  merge,
  ascend_in,
  ascend,
  has,
  parent,
  descend_in,
  descend,
  Descent,
}
use Rattle.parsimony.proofs.Order.{by_lt, by_eq, pick_true, pick_false, at_same, at_other, strong, downward}
use Rattle.parsimony.proofs.Sums.{sum_same, sum_scale, sum_swap, sum_at, sum_two, sum_some, sum_add, sum_none}

-- two children are not none
pub two_not_tip : (a b : ℕ) → two a b ≡ tip → ⊥
two_not_tip a b e = let z : ◌≡◌ {A = ℕ} 0 1 = cc in omega arith

-- a node's children one by one: what holds of each child
pub each_same : (f g : ℕ → ℕ) (k : Kids) → ((u : ℕ) → Has u k → f u ≡ g u) → each f k ≡ each g k
each_same f g tip h = refl
each_same f g (two a b) h = ap₂ ◌+◌ (h a (inl refl)) (h b (inr refl))

pub each_add : (f g : ℕ → ℕ) (k : Kids) → each (λ u. f u + g u) k ≡ each f k + each g k
each_add f g tip = refl
each_add f g (two a b) = omega arith

pub each_le : (f : ℕ → ℕ) (k : Kids) (u : ℕ) → Has u k → f u ≤ each f k
each_le f tip u h = absurd h
each_le f (two a b) u (inl e) = let p = ap f e in omega arith
each_le f (two a b) u (inr e) = let p = ap f e in omega arith

pub each_none : (f : ℕ → ℕ) (k : Kids) → ((u : ℕ) → Has u k → f u ≡ 0) → each f k ≡ 0
each_none f tip h = refl
each_none f (two a b) h = let p = h a (inl refl) in let q = h b (inr refl) in omega arith

-- a child is counted at least once
pub each_has : (u : ℕ) (k : Kids) → Has u k → 1 ≤ each (at u 1) k
each_has u k h = let e = at_same u 1 u refl in let m = each_le (at u 1) k u h in omega arith

-- and a node that is counted is a child
pub has_each : (u : ℕ) (k : Kids) → 1 ≤ each (at u 1) k → Has u k
has_each u tip h = absurd (not-suc-le-zero h)
has_each u (two a b) h =
    by_eq u a (λ e. inl e)
    (λ n. by_eq u b (λ e. inr e)
    (λ m. absurd (let p = at_other u 1 a n in let q = at_other u 1 b m in omega arith)))

at_scale : (u m a : ℕ) → at u m a ≡ m * at u 1 a
at_scale u m a =
    by_eq u a (λ e. at_same u m a e ∙ sym (mul-one m) ∙ ap (λ k. m * k) (sym (at_same u 1 a e)))
    (λ n. at_other u m a n ∙ sym (mul-zero m) ∙ ap (λ k. m * k) (sym (at_other u 1 a n)))

each_scale : (u m : ℕ) (k : Kids) → each (at u m) k ≡ m * each (at u 1) k
each_scale u m tip = sym (mul-zero m)
each_scale u m (two a b) = ap₂ ◌+◌ (at_scale u m a) (at_scale u m b) ∙ sym (mul-add m (at u 1 a) (at u 1 b))

sum_each : (f : ℕ → ℕ) (n : ℕ) (k : Kids) → ((u : ℕ) → Has u k → u < n) → sum (λ u. each (at u (f u)) k) n ≡ each f k
sum_each f n tip h = sum_none (λ u. 0) n (λ u k. refl)
sum_each f n (two a b) h =
    sum_add (λ u. at u (f u) a) (λ u. at u (f u) b) n
    ∙ ap₂ ◌+◌ (sum_at f n a (h a (inl refl))) (sum_at f n b (h b (inr refl)))

module _ (last : ℕ) (kids : ℕ → Kids) (rooted : Rooted last kids) where
  -- Each node once: a sum over all nodes but the root is a sum over all children.
  pub each_once : (f : ℕ → ℕ) → sum f last ≡ sum (λ p. each f (kids p)) (suc last)
  unfolding uses
  each_once f =
      sum_same f (λ u. sum (λ p. each (at u (f u)) (kids p)) (suc last)) last
      (λ u h. sym (mul-one (f u))
      ∙ ap (λ k. f u * k) (sym (rooted.once h))
      ∙ sym (sum_scale (f u) (λ p. each (at u 1) (kids p)) (suc last))
      ∙ sum_same _ _ (suc last) (λ p k. sym (each_scale u (f u) (kids p))))
      ∙ sum_swap (λ u p. each (at u (f u)) (kids p)) last (suc last)
      ∙ sum_same _ _ (suc last)
      (λ p h. sum_each f last (kids p) (λ u c. let b = rooted.below {p = p} (omega arith) c in omega arith))

  -- a node has one parent
  pub parent_unique : (p q u : ℕ) → p ≤ last → q ≤ last → Has u (kids p) → Has u (kids q) → p ≡ q
  unfolding uses
  parent_unique p q u hp hq cp cq =
      let b = rooted.below hp cp in
      let one : uses kids (suc last) u ≡ 1 = rooted.once (omega arith) in
      let mp = each_has u (kids p) cp in
      let mq = each_has u (kids q) cq in
      by_lt p q
      (λ h. absurd (let t = sum_two (λ p. each (at u 1) (kids p)) (suc last) p q h (omega arith) in omega arith))
      (λ h. by_lt q p
      (λ k. absurd (let t = sum_two (λ p. each (at u 1) (kids p)) (suc last) q p k (omega arith) in omega arith))
      (λ k. omega arith))

has_true : (u : ℕ) (k : Kids) → Has u k → has u k ≡ true
unfolding has
has_true u tip h = absurd h
has_true u (two a b) (inl e) = pick_true true (eqb u b) (eq-eqb u a e)
has_true u (two a b) (inr e) =
    by_eq u a (λ p. pick_true true (eqb u b) (eq-eqb u a p))
    (λ n. pick_false true (eqb u b) (ne_eqb u a n) ∙ eq-eqb u b e)

has_false : (u : ℕ) (k : Kids) → (Has u k → ⊥) → has u k ≡ false
unfolding has
has_false u tip h = refl
has_false u (two a b) h = pick_false true (eqb u b) (ne_eqb u a (λ e. h (inl e))) ∙ ne_eqb u b (λ e. h (inr e))

has_dec : {X : Type 0} (u : ℕ) (k : Kids) → (Has u k → X) → ((Has u k → ⊥) → X) → X
has_dec u tip f g = g (λ h. h)
has_dec u (two a b) f g =
    by_eq u a (λ e. f (inl e)) (λ n. by_eq u b (λ e. f (inr e)) (λ m. g (λ h. ⊎_elim n m h)))

parent_suc : (kids : ℕ → Kids) (n u : ℕ) → parent kids (suc n) u ≡ pick (has u (kids n)) n (parent kids n u)
unfolding parent
parent_suc kids n u = refl

-- where some node below n has u as a child, the parent found is such a node
parent_found : (kids : ℕ → Kids) (n u p : ℕ) → p < n → Has u (kids p)
    → (parent kids n u < n) × Has u (kids (parent kids n u))
parent_found kids zero u p h c = absurd (not-suc-le-zero h)
parent_found kids (suc n) u p h c =
    has_dec u (kids n)
    (λ y. let e : parent kids (suc n) u ≡ n =
    parent_suc kids n u ∙ pick_true n (parent kids n u) (has_true u (kids n) y) in
    (omega arith, subst (λ q. Has u (kids q)) (sym e) y))
    (λ no_child. by_eq p n (λ e. absurd (no_child (subst (λ q. Has u (kids q)) e c)))
    (λ ne. let rest = parent_found kids n u p (omega arith) c in
    let e : parent kids (suc n) u ≡ parent kids n u =
    parent_suc kids n u ∙ pick_false n (parent kids n u) (has_false u (kids n) no_child) in
    let b = rest.0 in
    (omega arith, subst (λ q. Has u (kids q)) (sym e) rest.1)))

module _ (last : ℕ) (kids : ℕ → Kids) (rooted : Rooted last kids) where
  -- every node but the root has a parent
  pub parent_has : (u : ℕ) → u < last → (p : ℕ) × (p ≤ last) × Has u (kids p)
  unfolding uses
  parent_has u h =
      let e : uses kids (suc last) u ≡ 1 = rooted.once h in
      let found = sum_some (λ p. each (at u 1) (kids p)) (suc last) (omega arith) in
      (found.0, omega arith, has_each u (kids found.0) found.2)

  -- and it is the one that the search finds
  pub parent_is : (p u : ℕ) → p ≤ last → Has u (kids p) → parent kids (suc last) u ≡ p
  parent_is p u h c =
      let found = parent_found kids (suc last) u p (omega arith) c in
      let b = found.0 in
      parent_unique last kids rooted (parent kids (suc last) u) p u (omega arith) h found.1 c

module _ {ℓ} {A : Type ℓ} (last : ℕ) (kids : ℕ → Kids) (rooted : Rooted last kids) (own : ℕ → A)
    (join : A → A → A) where
  -- levels enough are enough
  ascend_levels : (v : ℕ) → v ≤ last → (m n : ℕ) → v < m → v < n
      → ascend_in kids own join m v ≡ ascend_in kids own join n v
  unfolding ascend_in
  ascend_levels = strong _ go
    where
      at_kids : (v m n : ℕ) (k : Kids) → ((u : ℕ) → Has u k → ascend_in kids own join m u ≡ ascend_in kids own join n u)
          → merge k (own v) join (ascend_in kids own join m) ≡ merge k (own v) join (ascend_in kids own join n)
      at_kids v m n tip h = refl
      at_kids v m n (two a b) h = ap₂ join (h a (inl refl)) (h b (inr refl))

      go : (v : ℕ)
          → ((u : ℕ) → u < v → u ≤ last → (m n : ℕ) → u < m → u < n
          → ascend_in kids own join m u ≡ ascend_in kids own join n u)
          → v ≤ last → (m n : ℕ) → v < m → v < n → ascend_in kids own join m v ≡ ascend_in kids own join n v
      go v ih h zero n hm hn = absurd (not-suc-le-zero hm)
      go v ih h (suc m) zero hm hn = absurd (not-suc-le-zero hn)
      go v ih h (suc m) (suc n) hm hn =
          at_kids v m n (kids v)
          (λ u c. let b = rooted.below h c in ih u b (omega arith) m n (omega arith) (omega arith))

  -- the equation that work from the tips up meets at every node
  pub ascend_step : (v : ℕ) → v ≤ last → ascend kids own join v ≡ merge (kids v) (own v) join (ascend kids own join)
  unfolding ascend ascend_in
  ascend_step v h = at_kids (kids v) (λ u c. rooted.below h c)
    where
      at_kids : (k : Kids) → ((u : ℕ) → Has u k → u < v)
          → merge k (own v) join (ascend_in kids own join v)
          ≡ merge k (own v) join (λ u. ascend_in kids own join (suc u) u)
      at_kids tip b = refl
      at_kids (two a c) b =
          let ba = b a (inl refl) in
          let bc = b c (inr refl) in
          ap₂ join (ascend_levels a (omega arith) v (suc a) ba (omega arith))
          (ascend_levels c (omega arith) v (suc c) bc (omega arith))

module _ (last : ℕ) (kids : ℕ → Kids) (rooted : Rooted last kids) (give : ℕ → ℕ → ℕ) (start : ℕ) where
  descend_root : (levels : ℕ) → descend_in last kids give start levels last ≡ start
  unfolding descend_in
  descend_root zero = refl
  descend_root (suc levels) = rw (eq-eqb last last refl, descend_in)

  descend_child : (levels p u : ℕ) → p ≤ last → Has u (kids p)
      → descend_in last kids give start (suc levels) u ≡ give u (descend_in last kids give start levels p)
  unfolding descend_in
  descend_child levels p u h c =
      let b = rooted.below h c in
      let no_root : eqb u last ≡ false = ne_eqb u last (λ e. omega arith) in
      let step : descend_in last kids give start (suc levels) u
      ≡ give u (descend_in last kids give start levels (parent kids (suc last) u)) = rw (no_root, descend_in) in
      step ∙ ap (λ q. give u (descend_in last kids give start levels q)) (parent_is last kids rooted p u h c)

  descend_levels : (v : ℕ) → v ≤ last → (m n : ℕ) → last < v + m → last < v + n
      → descend_in last kids give start m v ≡ descend_in last kids give start n v
  descend_levels = downward last _ go
    where
      go : (v : ℕ) → v ≤ last
          → ((w : ℕ) → v < w → w ≤ last → (m n : ℕ) → last < w + m → last < w + n
          → descend_in last kids give start m w ≡ descend_in last kids give start n w)
          → (m n : ℕ) → last < v + m → last < v + n
          → descend_in last kids give start m v ≡ descend_in last kids give start n v
      go v h ih zero n hm hn = absurd (omega arith)
      go v h ih (suc m) zero hm hn = absurd (omega arith)
      go v h ih (suc m) (suc n) hm hn =
          by_lt v last
          (λ below. let (p, hp, c) = parent_has last kids rooted v below in
          let b = rooted.below hp c in
          descend_child m p v hp c
          ∙ ap (give v) (ih p b hp m n (omega arith) (omega arith))
          ∙ sym (descend_child n p v hp c))
          (λ top. let e : v ≡ last = omega arith in
          ap (descend_in last kids give start (suc m)) e
          ∙ descend_root (suc m)
          ∙ sym (descend_root (suc n))
          ∙ ap (descend_in last kids give start (suc n)) (sym e))

  -- work from the root down meets its equations
  pub descend_meets : Descent last kids give start (descend last kids give start)
  unfolding descend
  descend_meets =
      record {
        root = descend_root (suc last);
        edge = λ {p} {u} h c. let b = rooted.below h c in
            descend_child last p u h c ∙ ap (give u) (descend_levels p h last (suc last) (omega arith) (omega arith));
      }

module _ (last : ℕ) (kids : ℕ → Kids) (rooted : Rooted last kids) (start : ℕ) where
  -- nothing else meets them: work by steps that give the same has the same values
  pub descent_unique : (give take : ℕ → ℕ → ℕ) → ((u x : ℕ) → u < last → give u x ≡ take u x)
      → (l m : ℕ → ℕ) → Descent last kids give start l → Descent last kids take start m
      → (v : ℕ) → v ≤ last → l v ≡ m v
  descent_unique give take same l m dl dm = downward last _ go
    where
      go : (v : ℕ) → v ≤ last → ((w : ℕ) → v < w → w ≤ last → l w ≡ m w) → l v ≡ m v
      go v h ih =
          by_lt v last
          (λ below. let (p, hp, c) = parent_has last kids rooted v below in
          let b = rooted.below hp c in
          dl.edge hp c ∙ ap (give v) (ih p b hp) ∙ same v (m p) below ∙ sym (dm.edge hp c))
          (λ top. let e : v ≡ last = omega arith in
          ap l e ∙ dl.root ∙ sym dm.root ∙ ap m (sym e))

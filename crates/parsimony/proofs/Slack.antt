-- The cost of a labelling is the root's entry plus the slack on the edges, for rows R and least costs U up an edge.
-- Assumes nothing.
use mathlib.Core.Logic.{inl, inr}
use mathlib.Core.Path.{◌≡◌, refl, sym, subst}
use Prim.Native.Nat.{ℕ, suc, ◌+◌, ◌-◌, ◌≤◌, ◌<◌}
use native.Mathlib.Omega.{arith}
use Rattle.parsimony.specs.Column.{Column}
use Rattle.parsimony.specs.Labelling.{cost_below, cost_of}
use Rattle.parsimony.specs.Sum.{sum}
use Rattle.parsimony.specs.Tree.{Kids, tip, two, Has, each, Rooted}
use Rattle.parsimony.proofs.Sums.{sum_same, sum_add, sum_suc, sum_none, sum_before}
use Rattle.parsimony.proofs.TreeLaws.{each_once, each_none, each_le}

-- R and U balance over a column: a tip has its entry; an inner node the sum of its children's least; no child's state
-- costs less than the least.
pub record Balanced (P : Column) (R U : ℕ → ℕ → ℕ) : Type 0 where
  pub tips : (v x : ℕ) → v ≤ P.last → P.kids v ≡ tip → R v x ≡ P.entry v x
  pub inner : (v a b x : ℕ) → v ≤ P.last → P.kids v ≡ two a b → x < P.states → R v x ≡ U a x + U b x
  pub under : (u x y : ℕ) → u ≤ P.last → x < P.states → y < P.states → U u x ≤ P.cost x y + R u y

-- on each edge the child's state reaches the least
abbrev pub Tight : Column → (R U : ℕ → ℕ → ℕ) → (ℕ → ℕ) → Type 0
Tight P R U l = (p u : ℕ) → p ≤ P.last → Has u (P.kids p) → P.cost (l p) (l u) + R u (l u) ≡ U u (l p)

-- what an edge costs above the least
abbrev slack : Column → (R U : ℕ → ℕ → ℕ) → (ℕ → ℕ) → ℕ → ℕ → ℕ
slack P R U l p u = P.cost (l p) (l u) + R u (l u) - U u (l p)

module _ (P : Column) (tree : Rooted P.last P.kids) (R U : ℕ → ℕ → ℕ) (bal : Balanced P R U) (l : ℕ → ℕ)
    (states : (v : ℕ) → v ≤ P.last → l v < P.states) where
  node_slack : (v : ℕ) → v ≤ P.last → (k : Kids) → P.kids v ≡ k
      → cost_below P l v k + each (λ u. R u (l u)) k ≡ R v (l v) + each (slack P R U l v) k
  node_slack v h tip e = let t = bal.tips v (l v) h e in omega arith
  node_slack v h (two a b) e =
      let ka : Has a (P.kids v) = subst (λ k. Has a k) (sym e) (inl refl) in
      let kb : Has b (P.kids v) = subst (λ k. Has b k) (sym e) (inr refl) in
      let ba = tree.below h ka in
      let bb = tree.below h kb in
      let ha : a ≤ P.last = omega arith in
      let hb : b ≤ P.last = omega arith in
      let n = bal.inner v a b (l v) h e (states v h) in
      let ua = bal.under a (l v) (l a) ha (states v h) (states a ha) in
      let ub = bal.under b (l v) (l b) hb (states v h) (states b hb) in
      omega arith

  -- the cost is the root's entry plus the slack of all edges
  pub cost_slack : cost_of P l
      ≡ R P.last (l P.last) + sum (λ p. each (slack P R U l p) (P.kids p)) (suc P.last)
  unfolding cost_of
  cost_slack =
      let f : ℕ → ℕ = λ u. R u (l u) in
      let cost : ℕ → ℕ = λ v. cost_below P l v (P.kids v) in
      let slacks : ℕ → ℕ = λ p. each (slack P R U l p) (P.kids p) in
      let below : ℕ → ℕ = λ v. each f (P.kids v) in
      let n = suc P.last in
      let nodes : sum (λ v. cost v + below v) n ≡ sum (λ v. f v + slacks v) n =
      sum_same (λ v. cost v + below v) (λ v. f v + slacks v) n (λ v h. node_slack v (omega arith) (P.kids v) refl) in
      let left = sum_add cost below n in
      let right = sum_add f slacks n in
      let once = each_once P.last P.kids tree f in
      let top = sum_suc f P.last in
      omega arith

  -- no labelling costs less than the root's entry
  pub cost_least : R P.last (l P.last) ≤ cost_of P l
  cost_least = let e = cost_slack in omega arith

  -- where every edge is tight the cost is the root's entry
  pub tight_cost : Tight P R U l → cost_of P l ≡ R P.last (l P.last)
  tight_cost t =
      let e = cost_slack in
      let z = sum_none (λ p. each (slack P R U l p) (P.kids p)) (suc P.last)
      (λ p h. each_none (slack P R U l p) (P.kids p) (λ u c. let q = t p u (omega arith) c in omega arith)) in
      omega arith

  -- and where the cost is no more than the root's entry every edge is tight
  pub cost_tight : cost_of P l ≤ R P.last (l P.last) → Tight P R U l
  cost_tight h p u hp c =
      let e = cost_slack in
      let one = sum_before (λ p. each (slack P R U l p) (P.kids p)) (suc P.last) p (omega arith) in
      let edge = each_le (slack P R U l p) (P.kids p) u c in
      let b = tree.below hp c in
      let hu : u ≤ P.last = omega arith in
      let under = bal.under u (l p) (l u) hu (states p hp) (states u hu) in
      omega arith

-- The tree rules of a table: every node keeps them just if they hold, what they say of the counts, the lowest fault.
-- Assumes nothing.
use mathlib.Core.Logic.{◌⊎◌, inl, inr, ⊎_elim}
use mathlib.Core.Path.{◌≡◌, refl, sym, ◌∙◌, subst}
use Prim.Native.Nat.{ℕ, zero, suc, ◌+◌, ◌*◌, ◌%◌, ◌≤◌, ◌<◌}
use native.Mathlib.Nat.{not-suc-le-zero}
use native.Mathlib.Omega.{arith}
use Rattle.parsimony.specs.Fault.{KeepsEntries, Keeps, LowestFault}
use Rattle.parsimony.specs.Sum.{sum}
use Rattle.parsimony.specs.Table.{
  Kind,
  symbol,
  handed,
  Node,
  leaf,
  inner,
  kids_of,
  is_tip,
  names,
  tips,
  row_uses,
  child_uses,
  TreeRules,
}
use Rattle.parsimony.specs.Test.{at}
use Rattle.parsimony.specs.Tree.{Has, each, uses, Rooted}
use Rattle.parsimony.proofs.Order.{by_lt, by_eq, at_other}
use Rattle.parsimony.proofs.Sums.{sum_same, sum_add, sum_scale, sum_before, sum_tight}
use Rattle.parsimony.proofs.TreeLaws.{each_has, has_each, each_once}
use Rattle.parsimony.proofs.TipLaws.{
  sum_ones,
  sum_once,
  at_le,
  names_own,
  tip_own,
  names_leaf,
  names_le,
  rows_in,
  rows_out,
  rows_le,
  rows_swap,
}

module _ (n : ℕ) (node : ℕ → Node) where
  -- a child of a node that keeps the rules is below it and named by no lower node
  kept_child : (v u : ℕ) (x : Node) → KeepsEntries n node v x → Has u (kids_of x) → (u < v) × (child_uses node v u ≡ 0)
  kept_child v u (leaf k r) h c = absurd c
  kept_child v u (inner a b) h (inl e) = subst (λ w. (w < v) × (child_uses node v w ≡ 0)) (sym e) (h.0, h.3)
  kept_child v u (inner a b) h (inr e) = subst (λ w. (w < v) × (child_uses node v w ≡ 0)) (sym e) (h.1, h.4)

  -- and the node names it once
  kept_once : (v u : ℕ) (x : Node) → KeepsEntries n node v x → each (at u 1) (kids_of x) ≤ 1
  kept_once v u (leaf k r) h = omega arith
  kept_once v u (inner a b) h =
      let la = at_le u a in
      let lb = at_le u b in
      by_eq u a (λ e. let z = at_other u 1 b (λ p. h.2 (sym e ∙ p)) in omega arith)
      (λ ne. let z = at_other u 1 a ne in omega arith)

  -- the tree rules hold where every node keeps them
  pub keeps_rules : ((v : ℕ) → v < n → Keeps n node v) → TreeRules n node
  unfolding uses row_uses tips
  keeps_rules keeps =
      record {
        below = λ {v} {u} h c. (kept_child v u (node v) (keeps v h).entries c).0;
        apart = λ {v} {a} {b} h e. (subst (KeepsEntries n node v) e (keeps v h).entries).2;
        child = λ {u} h. let some = (keeps u (omega arith)).used h in let most = children u in omega arith;
        rows = rows;
      }
    where
      children : (u : ℕ) → child_uses node n u ≤ 1
      children u =
          sum_once (λ p. each (at u 1) (kids_of (node p))) n (λ v h. kept_once v u (node v) (keeps v h).entries)
          (λ v h c. (kept_child v u (node v) (keeps v h).entries (has_each u (kids_of (node v)) c)).1)

      row : (k : Kind) (r : ℕ) → row_uses k node n r ≤ 1
      row k r =
          sum_once (λ p. names k r (node p)) n (λ v h. names_le k r (node v))
          (λ v h c. (subst (KeepsEntries n node v) (names_leaf k r (node v) c) (keeps v h).entries).1)

      rows : (k : Kind) (r : ℕ) → r < tips k node n → row_uses k node n r ≡ 1
      rows k = sum_tight (row_uses k node n) (λ r. 1) (tips k node n) (λ r h. row k r)
          (rows_swap n node k (tips k node n)
          ∙ sum_same _ _ n (λ p h. rows_in k (tips k node n) (node p)
          (λ r e. (subst (KeepsEntries n node p) e (keeps p h).entries).0))
          ∙ sym (sum_ones (tips k node n)))

  -- a tip's row number is below the number of tips of its kind
  pub row_within : TreeRules n node → (v : ℕ) → v < n → (k : Kind) (r : ℕ) → node v ≡ leaf k r → r < tips k node n
  unfolding tips
  row_within rules v h k r e =
      let t = tips k node n in
      let total : sum (row_uses k node n) t ≡ t = sum_same _ (λ i. 1) t (rules.rows k) ∙ sum_ones t in
      let tight : sum (λ q. names k q (node v)) t ≡ is_tip k (node v) =
      sum_tight (λ p. sum (λ q. names k q (node p)) t) (λ p. is_tip k (node p)) n (λ p i. rows_le k t (node p))
      (sym (rows_swap n node k t) ∙ total) v h in
      by_lt r t (λ i. i)
      (λ out. absurd (let one : sum (λ q. names k q (leaf k r)) t ≡ is_tip k (leaf k r) = rw e at tight in
      let none = rows_out k t r out in
      let own = tip_own k r in
      omega arith))

  -- and every node keeps them where they hold
  pub rules_keep : TreeRules n node → (v : ℕ) → v < n → Keeps n node v
  unfolding uses row_uses
  rules_keep rules v h = record { entries = go (node v) refl; used = λ i. let one = rules.child i in omega arith }
    where
      free : (u : ℕ) → Has u (kids_of (node v)) → child_uses node v u ≡ 0
      free u c =
          let low = rules.below h c in
          let one = rules.child {u = u} (omega arith) in
          let here = each_has u (kids_of (node v)) c in
          let part = sum_before (λ p. each (at u 1) (kids_of (node p))) n v h in
          omega arith

      go : (x : Node) → node v ≡ x → KeepsEntries n node v x
      go (leaf k r) e =
          let low = row_within rules v h k r e in
          let one = rules.rows k r low in
          let here : names k r (node v) ≡ 1 = rw e (names_own k r) in
          let part = sum_before (λ p. names k r (node p)) n v h in
          (low, omega arith)
      go (inner a b) e =
          let ha : Has a (kids_of (node v)) = rw e (inl refl) in
          let hb : Has b (kids_of (node v)) = rw e (inr refl) in
          (rules.below h ha, rules.below h hb, rules.apart h e, free a ha, free b hb)

-- 1 where the node is inner, else 0
abbrev is_inner : Node → ℕ
is_inner (leaf k r) = 0
is_inner (inner a b) = 1

-- a node is a tip of one of the two kinds or inner
one_kind : (x : Node) → is_tip symbol x + is_tip handed x + is_inner x ≡ 1
one_kind (leaf symbol r) = refl
one_kind (leaf handed r) = refl
one_kind (inner a b) = refl

-- an inner node has two children
two_kids : (x : Node) → each (λ u. 1) (kids_of x) ≡ 2 * is_inner x
two_kids (leaf k r) = refl
two_kids (inner a b) = refl

module _ (last : ℕ) (node : ℕ → Node) (rules : TreeRules (suc last) node) where
  -- a table whose tree rules hold is a tree whose root is the last node
  pub rules_rooted : Rooted last (λ v. kids_of (node v))
  rules_rooted = record { below = λ h c. rules.below (omega arith) c; once = λ h. rules.child (omega arith) }

  -- the nodes but the last are twice the inner nodes
  rules_inner : last ≡ 2 * sum (λ p. is_inner (node p)) (suc last)
  rules_inner =
      sym (sum_ones last)
      ∙ each_once last (λ v. kids_of (node v)) rules_rooted (λ u. 1)
      ∙ sum_same _ _ (suc last) (λ p h. two_kids (node p))
      ∙ sum_scale 2 (λ p. is_inner (node p)) (suc last)

  -- the number of nodes is odd
  pub rules_odd : suc last % 2 ≡ 1
  rules_odd = let even = rules_inner in omega arith

  -- the tips of both kinds together: twice their number is one more than the number of nodes
  pub rules_tips : 2 * (tips symbol node (suc last) + tips handed node (suc last)) ≡ suc last + 1
  unfolding tips
  rules_tips =
      let even = rules_inner in
      let all : sum (λ p. is_tip symbol (node p) + is_tip handed (node p) + is_inner (node p)) (suc last) ≡ suc last =
      sum_same _ (λ p. 1) (suc last) (λ p h. one_kind (node p)) ∙ sum_ones (suc last) in
      let outer = sum_add (λ p. is_tip symbol (node p) + is_tip handed (node p)) (λ p. is_inner (node p)) (suc last) in
      let tips_split = sum_add (λ p. is_tip symbol (node p)) (λ p. is_tip handed (node p)) (suc last) in
      omega arith

module _ (n : ℕ) (node : ℕ → Node) where
  -- whether the entries of a node keep the rules is decided
  entries_dec : (v : ℕ) (x : Node) → KeepsEntries n node v x ⊎ (KeepsEntries n node v x → ⊥)
  entries_dec v (leaf k r) =
      by_lt r (tips k node n)
      (λ low. by_eq (row_uses k node v r) 0 (λ z. inl (low, z)) (λ nz. inr (λ h. nz h.1)))
      (λ high. inr (λ h. omega arith))
  entries_dec v (inner a b) =
      by_lt a v
      (λ la. by_lt b v
      (λ lb. by_eq a b (λ e. inr (λ h. h.2 e))
      (λ ne. by_eq (child_uses node v a) 0
      (λ za. by_eq (child_uses node v b) 0 (λ zb. inl (la, lb, ne, za, zb)) (λ nz. inr (λ h. nz h.4)))
      (λ nz. inr (λ h. nz h.3))))
      (λ hb. inr (λ h. omega arith)))
      (λ ha. inr (λ h. omega arith))

  -- and so whether the node does
  keeps_dec : (v : ℕ) → Keeps n node v ⊎ (Keeps n node v → ⊥)
  keeps_dec v = go (entries_dec v (node v))
    where
      go : KeepsEntries n node v (node v) ⊎ (KeepsEntries n node v (node v) → ⊥)
          → Keeps n node v ⊎ (Keeps n node v → ⊥)
      go (inr broken) = inr (λ k. broken k.entries)
      go (inl e) =
          by_lt (suc v) n
          (λ h. by_lt 0 (child_uses node n v) (λ some. inl (record { entries = e; used = λ i. some }))
          (λ none. inr (λ k. let some = k.used h in omega arith)))
          (λ h. inl (record { entries = e; used = λ i. absurd (omega arith) }))

  -- every node keeps the rules or there is a lowest fault
  pub fault_or_none : ((v : ℕ) → v < n → Keeps n node v) ⊎ ((v : ℕ) × LowestFault n node v)
  fault_or_none = upto n (omega arith)
    where
      next : (m : ℕ) → m < n → ((v : ℕ) → v < m → Keeps n node v) → Keeps n node m ⊎ (Keeps n node m → ⊥)
          → ((v : ℕ) → v < suc m → Keeps n node v) ⊎ ((v : ℕ) × LowestFault n node v)
      next m h lower (inl k) =
          inl (λ v i. by_eq v m (λ e. subst (Keeps n node) (sym e) k) (λ ne. lower v (omega arith)))
      next m h lower (inr broken) = inr (m, record { within = h; breaks = broken; first = lower })

      upto : (m : ℕ) → m ≤ n → ((v : ℕ) → v < m → Keeps n node v) ⊎ ((v : ℕ) × LowestFault n node v)
      upto zero h = inl (λ v i. absurd (not-suc-le-zero i))
      upto (suc m) h = ⊎_elim (λ lower. next m h lower (keeps_dec m)) inr (upto m (omega arith))

  -- the lowest fault is one node
  pub fault_unique : (v w : ℕ) → LowestFault n node v → LowestFault n node w → v ≡ w
  fault_unique v w fv fw =
      by_lt v w (λ h. absurd (fv.breaks (fw.first v h)))
      (λ h. by_lt w v (λ i. absurd (fw.breaks (fv.first w i))) (λ i. omega arith))

  -- a table with a fault breaks the tree rules
  pub fault_illegal : (v : ℕ) → LowestFault n node v → TreeRules n node → ⊥
  fault_illegal v f rules = f.breaks (rules_keep n node rules v f.within)

-- Laws of counting the rows of a table: sums whose terms are at most 1, and which nodes have which rows.
-- Assumes nothing.
use mathlib.Core.Path.{◌≡◌, refl, ap, sym}
use Prim.Native.Nat.{ℕ, zero, suc, ◌+◌, ◌≤◌, ◌<◌}
use native.Mathlib.Nat.{not-suc-le-zero}
use native.Mathlib.Omega.{arith}
use Rattle.parsimony.specs.Sum.{sum}
use Rattle.parsimony.specs.Table.{Kind, symbol, handed, Node, leaf, inner, is_tip, names, row_uses}
use Rattle.parsimony.specs.Test.{at}
use Rattle.parsimony.proofs.Order.{by_lt, by_eq, at_same, at_other}
use Rattle.parsimony.proofs.Sums.{sum_none, sum_swap, sum_before, sum_at, sum_at_none}

-- n ones make n
pub sum_ones : (n : ℕ) → sum (λ i. 1) n ≡ n
unfolding sum
sum_ones zero = refl
sum_ones (suc n) = let rest = sum_ones n in omega arith

-- a sum is at most 1 if each term is, and each term that is not 0 has none before it
pub sum_once : (f : ℕ → ℕ) (n : ℕ) → ((v : ℕ) → v < n → f v ≤ 1) → ((v : ℕ) → v < n → 1 ≤ f v → sum f v ≡ 0)
    → sum f n ≤ 1
unfolding sum
sum_once f zero h k = omega arith
sum_once f (suc n) h k =
    let rest = sum_once f n (λ v i. h v (omega arith)) (λ v i. k v (omega arith)) in
    let here = h n (omega arith) in
    by_lt 0 (f n) (λ some. let none = k n (omega arith) some in omega arith) (λ none. omega arith)

-- a number is met at most once at a place, and only where it stands
pub at_le : (u a : ℕ) → at u 1 a ≤ 1
at_le u a = by_eq u a (λ e. let p = at_same u 1 a e in omega arith) (λ n. let p = at_other u 1 a n in omega arith)

at_met : (u a : ℕ) → 1 ≤ at u 1 a → u ≡ a
at_met u a h = by_eq u a (λ e. e) (λ n. absurd (let p = at_other u 1 a n in omega arith))

-- a tip has its own row
pub names_own : (k : Kind) (r : ℕ) → names k r (leaf k r) ≡ 1
names_own symbol r = at_same r 1 r refl
names_own handed r = at_same r 1 r refl

-- and is a tip of its own kind
pub tip_own : (k : Kind) (r : ℕ) → is_tip k (leaf k r) ≡ 1
tip_own symbol r = refl
tip_own handed r = refl

-- only the tip with that kind and number has the row
pub names_leaf : (k : Kind) (r : ℕ) (x : Node) → 1 ≤ names k r x → x ≡ leaf k r
names_leaf symbol r (leaf symbol q) h = ap (leaf symbol) (sym (at_met r q h))
names_leaf symbol r (leaf handed q) h = absurd (not-suc-le-zero h)
names_leaf handed r (leaf symbol q) h = absurd (not-suc-le-zero h)
names_leaf handed r (leaf handed q) h = ap (leaf handed) (sym (at_met r q h))
names_leaf k r (inner a b) h = absurd (not-suc-le-zero h)

-- a node has a row at most once
pub names_le : (k : Kind) (r : ℕ) (x : Node) → names k r x ≤ 1
names_le symbol r (leaf symbol q) = at_le r q
names_le symbol r (leaf handed q) = omega arith
names_le handed r (leaf symbol q) = omega arith
names_le handed r (leaf handed q) = at_le r q
names_le k r (inner a b) = omega arith

-- a tip of kind k whose number is below t has one of the rows below t
pub rows_in : (k : Kind) (t : ℕ) (x : Node) → ((r : ℕ) → x ≡ leaf k r → r < t) → sum (λ r. names k r x) t ≡ is_tip k x
rows_in symbol t (leaf symbol q) h = sum_at (λ u. 1) t q (h q refl)
rows_in symbol t (leaf handed q) h = sum_none (λ r. 0) t (λ r i. refl)
rows_in handed t (leaf symbol q) h = sum_none (λ r. 0) t (λ r i. refl)
rows_in handed t (leaf handed q) h = sum_at (λ u. 1) t q (h q refl)
rows_in k t (inner a b) h = sum_none (λ r. 0) t (λ r i. refl)

-- a tip whose number is not has none of them
pub rows_out : (k : Kind) (t q : ℕ) → t ≤ q → sum (λ r. names k r (leaf k q)) t ≡ 0
rows_out symbol t q h = sum_at_none (λ u. 1) t q h
rows_out handed t q h = sum_at_none (λ u. 1) t q h

-- and no node has more
pub rows_le : (k : Kind) (t : ℕ) (x : Node) → sum (λ r. names k r x) t ≤ is_tip k x
rows_le k t (leaf j q) =
    let all = rows_in k (suc (t + q)) (leaf j q) (λ r e. let p : q ≡ r = cc in omega arith) in
    let part = sum_before (λ r. names k r (leaf j q)) (suc (t + q)) t (omega arith) in
    omega arith
rows_le k t (inner a b) = let none = sum_none (λ r. names k r (inner a b)) t (λ r i. refl) in omega arith

-- all uses of the rows below t, counted by nodes
pub rows_swap : (n : ℕ) (node : ℕ → Node) (k : Kind) (t : ℕ)
    → sum (row_uses k node n) t ≡ sum (λ p. sum (λ r. names k r (node p)) t) n
unfolding row_uses
rows_swap n node k t = sum_swap (λ r p. names k r (node p)) t n

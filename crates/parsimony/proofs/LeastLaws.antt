-- Laws of the least value and of the lowest place that reaches it.
-- Assumes nothing.
use mathlib.Core.Path.{◌≡◌, refl, ap, sym, ◌∙◌, subst}
use Prim.Native.Nat.{ℕ, zero, suc, ◌≤◌, ◌<◌}
use native.Mathlib.Nat.{not-suc-le-zero, le_antisymm}
use native.Mathlib.Omega.{arith}
use borrow.Author.Tests.{lt-ltb, le-ltb}
use lib.Dec.{ltb}
use Rattle.parsimony.specs.Least.{Least, LowestLeast, low, least}
use Rattle.parsimony.specs.Test.{pick}
use Rattle.parsimony.proofs.Order.{by_lt, by_eq, pick_true, pick_false}

low_suc : (f : ℕ → ℕ) (n : ℕ) → low f (suc n) ≡ pick (ltb (f n) (f (low f n))) n (low f n)
unfolding low
low_suc f n = refl

-- a lower value at n is the new lowest place
pub low_new : (f : ℕ → ℕ) (n : ℕ) → f n < f (low f n) → low f (suc n) ≡ n
low_new f n h = low_suc f n ∙ pick_true n (low f n) (lt-ltb (f n) (f (low f n)) h)

-- any other leaves the old one
pub low_old : (f : ℕ → ℕ) (n : ℕ) → f (low f n) ≤ f n → low f (suc n) ≡ low f n
low_old f n h = low_suc f n ∙ pick_false n (low f n) (le-ltb (f n) (f (low f n)) h)

low_zero : (f : ℕ → ℕ) → low f 0 ≡ 0
unfolding low
low_zero f = refl

-- of one place it is that one
pub low_one : (f : ℕ → ℕ) → low f 1 ≡ 0
low_one f = low_old f 0 (subst (λ m. f m ≤ f 0) (sym (low_zero f)) (omega arith)) ∙ low_zero f

-- the lowest place is below the bound
pub low_within : (f : ℕ → ℕ) (s : ℕ) → 0 < s → low f s < s
low_within f zero h = absurd (not-suc-le-zero h)
low_within f (suc n) h =
    by_lt (f n) (f (low f n)) (λ k. let e = low_new f n k in omega arith)
    (λ k. let e = low_old f n k in
    by_lt 0 n (λ p. let rest = low_within f n p in omega arith)
    (λ p. let z : low f n ≡ 0 = subst (λ m. low f m ≡ 0) (le_antisymm {n = 0} (omega arith) p) (low_zero f) in
    omega arith))

-- no value is below the least
pub low_below : (f : ℕ → ℕ) (s z : ℕ) → z < s → f (low f s) ≤ f z
low_below f zero z h = absurd (not-suc-le-zero h)
low_below f (suc n) z h =
    by_lt (f n) (f (low f n))
    (λ k. let e : f (low f (suc n)) ≡ f n = ap f (low_new f n k) in
    by_eq z n (λ p. let q : f z ≡ f n = ap f p in omega arith)
    (λ ne. let rest = low_below f n z (omega arith) in omega arith))
    (λ k. let e : f (low f (suc n)) ≡ f (low f n) = ap f (low_old f n k) in
    by_eq z n (λ p. let q : f z ≡ f n = ap f p in omega arith)
    (λ ne. let rest = low_below f n z (omega arith) in omega arith))

-- below the lowest place every value is above the least
pub low_first : (f : ℕ → ℕ) (s z : ℕ) → z < low f s → f (low f s) < f z
low_first f zero z h = absurd (let e = low_zero f in omega arith)
low_first f (suc n) z h =
    by_lt (f n) (f (low f n))
    (λ k. let p = low_new f n k in
    let e : f (low f (suc n)) ≡ f n = ap f p in
    let rest = low_below f n z (omega arith) in
    omega arith)
    (λ k. let p = low_old f n k in
    let e : f (low f (suc n)) ≡ f (low f n) = ap f p in
    let rest = low_first f n z (omega arith) in
    omega arith)

-- the lowest place depends on the values below the bound alone
pub low_same : (f g : ℕ → ℕ) (s : ℕ) → ((y : ℕ) → y < s → f y ≡ g y) → low f s ≡ low g s
low_same f g zero h = low_zero f ∙ sym (low_zero g)
low_same f g (suc n) h =
    let rest : low f n ≡ low g n = low_same f g n (λ y k. h y (omega arith)) in
    let here : f n ≡ g n = h n (omega arith) in
    by_lt 0 n
    (λ pos. let lw = low_within f n pos in
    let there : f (low f n) ≡ g (low g n) = h (low f n) (omega arith) ∙ ap g rest in
    by_lt (f n) (f (low f n))
    (λ k. low_new f n k ∙ sym (low_new g n (omega arith)))
    (λ k. low_old f n k ∙ rest ∙ sym (low_old g n (omega arith))))
    (λ z. let n0 : n ≡ 0 = omega arith in
    let f0 : low f n ≡ 0 = subst (λ m. low f m ≡ 0) (sym n0) (low_zero f) in
    let g0 : low g n ≡ 0 = subst (λ m. low g m ≡ 0) (sym n0) (low_zero g) in
    let ff : f (low f n) ≡ f n = ap f (f0 ∙ sym n0) in
    let gg : g (low g n) ≡ g n = ap g (g0 ∙ sym n0) in
    low_old f n (omega arith) ∙ rest ∙ sym (low_old g n (omega arith)))

-- the least value is reached at the lowest place
pub least_low : (f : ℕ → ℕ) (s : ℕ) → least f s ≡ f (low f s)
unfolding least
least_low f s = refl

pub low_least : (f : ℕ → ℕ) (s : ℕ) → 0 < s → Least f s (low f s)
low_least f s h = record { within = low_within f s h; below = low_below f s }

pub least_below : (f : ℕ → ℕ) (s z : ℕ) → z < s → least f s ≤ f z
unfolding least
least_below f s z h = low_below f s z h

-- two places at which f is least have the same value there
pub least_value : (f : ℕ → ℕ) (s y : ℕ) → Least f s y → f y ≡ least f s
unfolding least
least_value f s y h =
    let pos : 0 < s = let w = h.within in omega arith in
    le_antisymm (h.below (low f s) (low_within f s pos)) (low_below f s y h.within)

pub least_same : (f g : ℕ → ℕ) (s : ℕ) → 0 < s → ((y : ℕ) → y < s → f y ≡ g y) → least f s ≡ least g s
unfolding least
least_same f g s pos h = h (low f s) (low_within f s pos) ∙ ap g (low_same f g s h)

-- the lowest place is the lowest least, and there is no other
pub low_lowest : (f : ℕ → ℕ) (s : ℕ) → 0 < s → LowestLeast f s (low f s)
low_lowest f s h = record { least = low_least f s h; first = low_first f s }

pub lowest_least_unique : (f : ℕ → ℕ) (s y z : ℕ) → LowestLeast f s y → LowestLeast f s z → y ≡ z
lowest_least_unique f s y z hy hz =
    by_lt y z (λ k. absurd (let a = hz.first y k in let b = hy.least.below z hz.least.within in omega arith))
    (λ k. by_lt z y
    (λ m. absurd (let a = hy.first z m in let b = hz.least.below y hy.least.within in omega arith))
    (λ m. omega arith))

-- Laws of sums over the numbers below a bound.
-- Assumes nothing.
use mathlib.Core.Path.{◌≡◌, refl, ap, sym, ◌∙◌, subst}
use Prim.Native.Nat.{ℕ, zero, suc, ◌+◌, ◌*◌, ◌≤◌, ◌<◌}
use native.Mathlib.Nat.{mul-add, mul-zero, not-suc-le-zero}
use native.Mathlib.Omega.{arith}
use Rattle.parsimony.specs.Sum.{sum}
use Rattle.parsimony.specs.Test.{at}
use Rattle.parsimony.proofs.Order.{by_lt, by_eq, at_same, at_other}

pub sum_zero : (f : ℕ → ℕ) → sum f 0 ≡ 0
unfolding sum
sum_zero f = refl

pub sum_suc : (f : ℕ → ℕ) (n : ℕ) → sum f (suc n) ≡ sum f n + f n
unfolding sum
sum_suc f n = refl

pub sum_same : (f g : ℕ → ℕ) (n : ℕ) → ((i : ℕ) → i < n → f i ≡ g i) → sum f n ≡ sum g n
unfolding sum
sum_same f g zero h = refl
sum_same f g (suc n) h =
    let rest = sum_same f g n (λ i k. h i (omega arith)) in
    let here = h n (omega arith) in
    omega arith

pub sum_le : (f g : ℕ → ℕ) (n : ℕ) → ((i : ℕ) → i < n → f i ≤ g i) → sum f n ≤ sum g n
unfolding sum
sum_le f g zero h = omega arith
sum_le f g (suc n) h =
    let rest = sum_le f g n (λ i k. h i (omega arith)) in
    let here = h n (omega arith) in
    omega arith

pub sum_add : (f g : ℕ → ℕ) (n : ℕ) → sum (λ i. f i + g i) n ≡ sum f n + sum g n
unfolding sum
sum_add f g zero = refl
sum_add f g (suc n) = let rest = sum_add f g n in omega arith

pub sum_scale : (m : ℕ) (f : ℕ → ℕ) (n : ℕ) → sum (λ i. m * f i) n ≡ m * sum f n
unfolding sum
sum_scale m f zero = sym (mul-zero m)
sum_scale m f (suc n) =
    let rest = sum_scale m f n in
    let step = mul-add m (sum f n) (f n) in
    omega arith

pub sum_none : (f : ℕ → ℕ) (n : ℕ) → ((i : ℕ) → i < n → f i ≡ 0) → sum f n ≡ 0
unfolding sum
sum_none f zero h = refl
sum_none f (suc n) h =
    let rest = sum_none f n (λ i k. h i (omega arith)) in
    let here = h n (omega arith) in
    omega arith

pub sum_swap : (f : ℕ → ℕ → ℕ) (n m : ℕ) → sum (λ i. sum (f i) m) n ≡ sum (λ j. sum (λ i. f i j) n) m
sum_swap f zero m =
    sum_zero (λ i. sum (f i) m) ∙ sym (sum_none (λ j. sum (λ i. f i j) 0) m (λ j h. sum_zero (λ i. f i j)))
sum_swap f (suc n) m =
    sum_suc (λ i. sum (f i) m) n
    ∙ ap (λ k. k + sum (f n) m) (sum_swap f n m)
    ∙ sym (sum_add (λ j. sum (λ i. f i j) n) (f n) m)
    ∙ sum_same _ _ m (λ j h. sym (sum_suc (λ i. f i j) n))

-- one term, and what stands before it, are within the sum
pub sum_before : (f : ℕ → ℕ) (n v : ℕ) → v < n → sum f v + f v ≤ sum f n
unfolding sum
sum_before f zero v h = absurd (not-suc-le-zero h)
sum_before f (suc n) v h =
    by_eq v n (λ e. subst (λ k. sum f k + f k ≤ sum f n + f n) (sym e) (omega arith))
    (λ ne. let rest = sum_before f n v (omega arith) in omega arith)

-- two terms at different places are within the sum
pub sum_two : (f : ℕ → ℕ) (n p q : ℕ) → p < q → q < n → f p + f q ≤ sum f n
sum_two f n p q h k = let one = sum_before f q p h in let more = sum_before f n q k in omega arith

-- a sum that is not 0 has a term that is not 0
pub sum_some : (f : ℕ → ℕ) (n : ℕ) → 1 ≤ sum f n → (i : ℕ) × (i < n) × (1 ≤ f i)
unfolding sum
sum_some f zero h = absurd (omega arith)
sum_some f (suc n) h =
    by_lt 0 (f n) (λ k. (n, omega arith, k))
    (λ k. let rest = sum_some f n (omega arith) in (rest.0, omega arith, rest.2))

-- of two sums that are equal, with each term of the one at most the other's, the terms are equal
pub sum_tight : (f g : ℕ → ℕ) (n : ℕ) → ((i : ℕ) → i < n → f i ≤ g i) → sum f n ≡ sum g n
    → (i : ℕ) → i < n → f i ≡ g i
unfolding sum
sum_tight f g zero h e i k = absurd (not-suc-le-zero k)
sum_tight f g (suc n) h e i k =
    let rest = sum_le f g n (λ j m. h j (omega arith)) in
    let here = h n (omega arith) in
    by_eq i n (λ p. subst (λ j. f j ≡ g j) (sym p) (omega arith))
    (λ ne. sum_tight f g n (λ j m. h j (omega arith)) (omega arith) i (omega arith))

-- the sum that has f at one place and 0 elsewhere
pub sum_at : (f : ℕ → ℕ) (n a : ℕ) → a < n → sum (λ u. at u (f u) a) n ≡ f a
sum_at f zero a h = absurd (not-suc-le-zero h)
sum_at f (suc n) a h =
    sum_suc (λ u. at u (f u) a) n
    ∙ by_eq n a
    (λ e. let here : at n (f n) a ≡ f n = at_same n (f n) a e in
    let same : f n ≡ f a = ap f e in
    let rest : sum (λ u. at u (f u) a) n ≡ 0 = sum_none _ n (λ i k. at_other i (f i) a (λ p. omega arith)) in
    omega arith)
    (λ ne. let here : at n (f n) a ≡ 0 = at_other n (f n) a ne in
    let rest = sum_at f n a (omega arith) in
    omega arith)

-- the same sum where the place is not met
pub sum_at_none : (f : ℕ → ℕ) (n a : ℕ) → n ≤ a → sum (λ u. at u (f u) a) n ≡ 0
sum_at_none f n a h = sum_none (λ u. at u (f u) a) n (λ i k. at_other i (f i) a (λ p. omega arith))

-- What stands where in a list that is filled by a rule.
-- Assumes nothing.
use mathlib.Core.List.{List, ◌++◌}
use mathlib.Core.Path.{◌≡◌, refl, ap, sym, ◌∙◌}
use Prim.Native.Nat.{ℕ, zero, suc, ◌+◌, ◌*◌, ◌-◌, ◌<◌}
use native.Mathlib.Nat.{not-suc-le-zero, le_of_suc-le-suc, suc-mul, zero-mul}
use native.Mathlib.Omega.{arith}
use lib.ListN.{length, get_or, get_or-append, length-append}
use lib.Seq.{get_or-append-add}
use Rattle.parsimony.proofs.Order.{by_lt}
use Rattle.parsimony.specs.Filled.{list_of, joined}

pub list_long : (n : ℕ) (f : ℕ → ℕ) → length (list_of n f) ≡ n
unfolding list_of
list_long zero f = refl
list_long (suc n) f = ap suc (list_long n (λ i. f (suc i)))

pub list_at : (n : ℕ) (f : ℕ → ℕ) (i : ℕ) → i < n → get_or (list_of n f) i 0 ≡ f i
unfolding list_of
list_at zero f i h = absurd (not-suc-le-zero h)
list_at (suc n) f zero h = refl
list_at (suc n) f (suc i) h = list_at n (λ i. f (suc i)) i (le_of_suc-le-suc h)

pub joined_long : (n m : ℕ) (f : ℕ → List ℕ) → ((r : ℕ) → r < n → length (f r) ≡ m) → length (joined n f) ≡ n * m
unfolding joined
joined_long zero m f h = sym (zero-mul m)
joined_long (suc n) m f h =
    let first = h 0 (omega arith) in
    let rest = joined_long n m (λ i. f (suc i)) (λ r k. h (suc r) (omega arith)) in
    let whole = length-append (f 0) (joined n (λ i. f (suc i))) in
    let product = suc-mul n m in
    omega arith

pub joined_at : (n m : ℕ) (f : ℕ → List ℕ) → ((r : ℕ) → r < n → length (f r) ≡ m) → (r j : ℕ) → r < n → j < m
    → get_or (joined n f) (r * m + j) 0 ≡ get_or (f r) j 0
unfolding joined
joined_at zero m f h r j hr hj = absurd (not-suc-le-zero hr)
joined_at (suc n) m f h zero j hr hj =
    let first = h 0 (omega arith) in
    ap (λ k. get_or (f 0 ++ joined n (λ i. f (suc i))) (k + j) 0) (zero-mul m)
    ∙ ap (λ k. get_or (f 0 ++ joined n (λ i. f (suc i))) k 0) (omega arith)
    ∙ get_or-append (f 0) (joined n (λ i. f (suc i))) 0 j (omega arith)
joined_at (suc n) m f h (suc r) j hr hj =
    let first = h 0 (omega arith) in
    let product = suc-mul r m in
    ap (λ k. get_or (f 0 ++ joined n (λ i. f (suc i))) k 0) (omega arith)
    ∙ get_or-append-add (f 0) (joined n (λ i. f (suc i))) (r * m + j) 0
    ∙ joined_at n m (λ i. f (suc i)) (λ q k. h (suc q) (omega arith)) r j (omega arith) hj

-- a place in n rows of m is one of a row
pub place_split : (n m i : ℕ) → i < n * m → (r : ℕ) × (j : ℕ) × (r < n) × (j < m) × (i ≡ r * m + j)
place_split zero m i h = absurd (let z = zero-mul m in omega arith)
place_split (suc n) m i h =
    let product = suc-mul n m in
    by_lt i m (λ low. (0, i, omega arith, low, let z = zero-mul m in omega arith))
    (λ high. let (r, j, hr, hj, e) = place_split n m (i - m) (omega arith) in
    (suc r, j, omega arith, hj, let more = suc-mul r m in omega arith))

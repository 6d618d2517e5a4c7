-- Laws of the states that a test gathers, of the size and the lowest state of a set, and of tests below a bound.
-- Assumes nothing.
use mathlib.Core.Bool.{Bool, true, false, false≢true}
use mathlib.Core.Logic.{◌↔◌}
use mathlib.Core.Path.{◌≡◌, refl, ap, ap₂, sym, ◌∙◌, subst}
use Prim.Native.Nat.{ℕ, zero, suc, ◌+◌, ◌/◌, ◌%◌, ◌^◌, ◌<◌}
use native.Mathlib.Nat.{add-div_right, div-eq_of_lt, not-suc-le-zero, pow-suc}
use native.Mathlib.Omega.{arith}
use lib.Count.{ones, ones_step, count_trailing_zeros, under}
use lib.Pow.{pow_pos}
use Rattle.parsimony.specs.StateSet.{bit, Member, gather, size, Lowest}
use Rattle.parsimony.specs.Sum.{sum}
use Rattle.parsimony.specs.Test.{pick, both, some}
use Rattle.parsimony.proofs.Order.{by_lt, by_eq, pick_true, pick_false}
use Rattle.parsimony.proofs.StateSetLaws.{bit_low, bit_half, bit_above, member_within, half_within}
use Rattle.parsimony.proofs.Sums.{sum_same}

-- a test holds, or not
pub by_test {ℓ} : {X : Type ℓ} (b : Bool) → (b ≡ true → X) → (b ≡ false → X) → X
by_test true f g = f refl
by_test false f g = g refl

-- adding 2 ^ s leaves the bits below s as they are
bit_below : (s w x : ℕ) → x < s → bit (w + 2 ^ s) x ≡ bit w x
bit_below zero w x h = absurd (not-suc-le-zero h)
bit_below (suc s) w zero h =
    let e = pow-suc 2 s in let a = bit_low (w + 2 ^ suc s) in let b = bit_low w in omega arith
bit_below (suc s) w (suc x) h =
    let half : (w + 2 ^ suc s) / 2 ≡ w / 2 + 2 ^ s = let e = pow-suc 2 s in omega arith in
    bit_half (w + 2 ^ suc s) x ∙ ap (λ k. bit k x) half ∙ bit_below s (w / 2) x (omega arith) ∙ sym (bit_half w x)

-- adding 2 ^ s to a number below it sets bit s
bit_top : (s w : ℕ) → w < 2 ^ s → bit (w + 2 ^ s) s ≡ 1
unfolding bit
bit_top s w h = ap (λ k. k % 2) (add-div_right w (pow_pos s) ∙ ap (λ k. k + 1) (div-eq_of_lt h))

-- one more number, of which the test holds
gather_new : (f : ℕ → Bool) (n : ℕ) → f n ≡ true → gather f (suc n) ≡ gather f n + 2 ^ n
unfolding gather
gather_new f n h = ap (λ k. gather f n + k) (pick_true (2 ^ n) 0 h)

-- one more number, of which the test fails
gather_old : (f : ℕ → Bool) (n : ℕ) → f n ≡ false → gather f (suc n) ≡ gather f n
unfolding gather
gather_old f n h = let e : pick (f n) (2 ^ n) 0 ≡ 0 = pick_false (2 ^ n) 0 h in omega arith

-- the states gathered below s make a set below 2 ^ s
pub gather_within : (f : ℕ → Bool) (s : ℕ) → gather f s < 2 ^ s
unfolding gather
gather_within f zero = omega arith
gather_within f (suc n) =
    let rest = gather_within f n in
    let e = pow-suc 2 n in
    by_test (f n) (λ t. let g = gather_new f n t in omega arith) (λ t. let g = gather_old f n t in omega arith)

-- the bit of a number below s is the test's answer
gather_bit : (f : ℕ → Bool) (s x : ℕ) → x < s → bit (gather f s) x ≡ pick (f x) 1 0
gather_bit f zero x h = absurd (not-suc-le-zero h)
gather_bit f (suc n) x h =
    let within = gather_within f n in
    by_test (f n)
    (λ t. ap (λ k. bit k x) (gather_new f n t) ∙ by_eq x n
    (λ e. subst (λ k. bit (gather f n + 2 ^ n) k ≡ pick (f k) 1 0) (sym e)
    (bit_top n (gather f n) within ∙ sym (pick_true 1 0 t)))
    (λ ne. bit_below n (gather f n) x (omega arith) ∙ gather_bit f n x (omega arith)))
    (λ t. ap (λ k. bit k x) (gather_old f n t) ∙ by_eq x n
    (λ e. subst (λ k. bit (gather f n) k ≡ pick (f k) 1 0) (sym e)
    (bit_above n (gather f n) n within (omega arith) ∙ sym (pick_false 1 0 t)))
    (λ ne. gather_bit f n x (omega arith)))

-- the states gathered are those below s of which the test holds
pub gather_member : (f : ℕ → Bool) (s x : ℕ) → Member (gather f s) x ↔ ((x < s) × (f x ≡ true))
gather_member f s x = (
  λ h. let i = member_within s (gather f s) x (gather_within f s) h in
      let e = gather_bit f s x i in
      (i, by_test (f x) (λ t. t) (λ t. let z : bit (gather f s) x ≡ 0 = e ∙ pick_false 1 0 t in absurd (omega arith))),
  λ h. gather_bit f s x h.0 ∙ pick_true 1 0 h.1,
)

-- two tests that agree below s gather the same states
pub gather_same : (f g : ℕ → Bool) (s : ℕ) → ((x : ℕ) → x < s → f x ≡ g x) → gather f s ≡ gather g s
unfolding gather
gather_same f g zero h = refl
gather_same f g (suc n) h =
    ap₂ (λ k b. k + pick b (2 ^ n) 0) (gather_same f g n (λ x i. h x (omega arith))) (h n (omega arith))

-- a sum is its first term and the sum of the others
pub sum_first : (f : ℕ → ℕ) (n : ℕ) → sum f (suc n) ≡ f 0 + sum (λ i. f (suc i)) n
unfolding sum
sum_first f zero = omega arith
sum_first f (suc n) = let rest = sum_first f n in omega arith

-- the size of a set is its lowest digit and the size of its half
size_half : (s w : ℕ) → size (suc s) w ≡ w % 2 + size s (w / 2)
unfolding size
size_half s w =
    sum_first (bit w) s ∙ ap₂ ◌+◌ (bit_low w) (sum_same _ (bit (w / 2)) s (λ i h. bit_half w i))

-- the size of a set below 2 ^ s is the count of its set digits
pub size_ones : (s w : ℕ) → w < 2 ^ s → size s w ≡ ones w
unfolding size ones
size_ones zero w h = let z : 0 ≡ w = omega arith in ap ones z
size_ones (suc s) w h =
    size_half s w ∙ ap (λ k. w % 2 + k) (size_ones s (w / 2) (half_within s w h)) ∙ sym (ones_step w)

-- an odd number has the lowest state 0
lowest_odd : (w : ℕ) → w % 2 ≡ 1 → Lowest w 0
lowest_odd w h = record { is_in = bit_low w ∙ h; first = λ y i. absurd (not-suc-le-zero i) }

-- an even number's lowest state is one above that of its half
lowest_even : (w x : ℕ) → w % 2 ≡ 0 → Lowest (w / 2) x → Lowest w (suc x)
lowest_even w x h l = record { is_in = bit_half w x ∙ l.is_in; first = first }
  where
    first : (y : ℕ) → y < suc x → Member w y → ⊥
    first zero i m = let e = bit_low w in omega arith
    first (suc y) i m = l.first y (omega arith) (sym (bit_half w y) ∙ m)

-- the count of the digits below the lowest set digit is the lowest state
pub lowest_first : (s w : ℕ) → w < 2 ^ s → 0 < w → Lowest w (count_trailing_zeros s w)
unfolding count_trailing_zeros
lowest_first zero w h p = absurd (omega arith)
lowest_first (suc s) w h p =
    let rest = count_trailing_zeros s (w / 2) in
    by_eq (w % 2) 1 (λ e. subst (λ d. Lowest w (under d rest)) (sym e) (lowest_odd w e))
    (λ ne. let e : w % 2 ≡ 0 = omega arith in
    subst (λ d. Lowest w (under d rest)) (sym e)
    (lowest_even w rest e (lowest_first s (w / 2) (half_within s w h) (omega arith))))

-- a set has one lowest state
pub lowest_unique : (w x y : ℕ) → Lowest w x → Lowest w y → x ≡ y
lowest_unique w x y h k =
    by_lt x y (λ i. absurd (k.first x i h.is_in))
    (λ i. by_lt y x (λ j. absurd (h.first y j k.is_in)) (λ j. omega arith))

-- a test that holds of some number below n holds of one that can be named
pub some_true : (f : ℕ → Bool) (n : ℕ) → some f n ≡ true → (i : ℕ) × (i < n) × (f i ≡ true)
unfolding some
some_true f zero h = absurd (false≢true h)
some_true f (suc n) h =
    by_test (f n) (λ t. (n, omega arith, t))
    (λ t. let rest = some_true f n (sym (pick_false true (some f n) t) ∙ h) in (rest.0, omega arith, rest.2))

-- a test that holds of a number below n holds of some
pub some_here : (f : ℕ → Bool) (n i : ℕ) → i < n → f i ≡ true → some f n ≡ true
unfolding some
some_here f zero i h t = absurd (not-suc-le-zero h)
some_here f (suc n) i h t =
    by_eq i n (λ e. pick_true true (some f n) (ap f (sym e) ∙ t))
    (λ ne. by_test (f n) (pick_true true (some f n))
    (λ k. pick_false true (some f n) k ∙ some_here f n i (omega arith) t))

-- two tests that agree below n hold of some number alike
pub some_same : (f g : ℕ → Bool) (n : ℕ) → ((i : ℕ) → i < n → f i ≡ g i) → some f n ≡ some g n
unfolding some
some_same f g zero h = refl
some_same f g (suc n) h =
    ap₂ (λ b c. pick b true c) (h n (omega arith)) (some_same f g n (λ i k. h i (omega arith)))

-- where both tests hold, the first does
pub both_left : (a b : Bool) → both a b ≡ true → a ≡ true
unfolding both
both_left true b h = refl
both_left false b h = h

-- where both tests hold, the second does
pub both_right : (a b : Bool) → both a b ≡ true → b ≡ true
unfolding both
both_right true b h = h
both_right false b h = absurd (false≢true h)

-- where each of two tests holds, both do
pub both_true : (a b : Bool) → a ≡ true → b ≡ true → both a b ≡ true
unfolding both
both_true true b h k = k
both_true false b h k = h

-- Laws of the sets of states: which states are in a set, and what makes two sets the same.
-- Assumes nothing.
use mathlib.Core.Bool.{true, false}
use mathlib.Core.Logic.{◌⊎◌, inl, inr, ◌↔◌}
use mathlib.Core.Path.{◌≡◌, refl, ap, sym, ◌∙◌, subst}
use Prim.Native.Nat.{ℕ, zero, suc, ◌/◌, ◌%◌, ◌^◌, ◌≤◌, ◌<◌, min, max}
use native.Mathlib.Nat.{div-div-eq-div-mul, div-eq_of_lt, div-one, lt_of_lt_of_le, mod-lt, pow-suc, pow-succ'}
use native.Mathlib.Omega.{arith}
use borrow.Author.Tests.{eqb-true, eq-eqb, ne_eqb}
use lib.Bits.{and_shr, and_step, or_shr, or_step}
use lib.Pow.{pow_mono}
use Rattle.parsimony.specs.Limits.{most_states, cell_bits}
use Rattle.parsimony.specs.StateSet.{bit, Member, holds, one, union, common}
use Rattle.parsimony.proofs.Order.{by_lt, by_eq}

-- a bit is below 2
pub bit_small : (w x : ℕ) → bit w x < 2
unfolding bit
bit_small w x = mod-lt (w / 2 ^ x) (omega arith)

-- the lowest bit
pub bit_low : (w : ℕ) → bit w 0 ≡ w % 2
unfolding bit
bit_low w = ap (λ k. k % 2) (div-one w)

-- the other bits are those of the half
pub bit_half : (w x : ℕ) → bit w (suc x) ≡ bit (w / 2) x
unfolding bit
bit_half w x = ap (λ k. k % 2) (ap (λ k. w / k) (pow-succ' 2 x) ∙ sym (div-div-eq-div-mul w 2 (2 ^ x)))

-- a bit is 0 or 1
pub bit_cases : (w x : ℕ) → (bit w x ≡ 0) ⊎ (bit w x ≡ 1)
bit_cases w x =
    let small = bit_small w x in
    by_eq (bit w x) 0 (λ e. inl e) (λ ne. inr (omega arith))

-- the test holds of a state in the set
pub holds_true : (w x : ℕ) → Member w x → holds w x ≡ true
unfolding holds
holds_true w x h = eq-eqb (bit w x) 1 h

-- a state of which the test holds is in the set
pub holds_member : (w x : ℕ) → holds w x ≡ true → Member w x
unfolding holds
holds_member w x h = eqb-true (bit w x) 1 h

-- the test fails of a state that is not in the set
pub holds_false : (w x : ℕ) → (Member w x → ⊥) → holds w x ≡ false
unfolding holds
holds_false w x h = ne_eqb (bit w x) 1 h

-- the bit of a state that is not in the set is 0
pub bit_none : (w x : ℕ) → (Member w x → ⊥) → bit w x ≡ 0
bit_none w x h = let small = bit_small w x in by_eq (bit w x) 0 (λ e. e) (λ ne. absurd (h (omega arith)))

-- the set of state x alone has the state x
one_in : (x : ℕ) → bit (2 ^ x) x ≡ 1
one_in zero = bit_low 1
one_in (suc x) =
    let half : 2 ^ suc x / 2 ≡ 2 ^ x = let e = pow-suc 2 x in omega arith in
    bit_half (2 ^ suc x) x ∙ ap (λ k. bit k x) half ∙ one_in x

-- every bit of 0 is 0
zero_bit : (x : ℕ) → bit 0 x ≡ 0
zero_bit zero = bit_low 0
zero_bit (suc x) = bit_half 0 x ∙ zero_bit x

-- the set of state x alone has no other state
one_only : (x y : ℕ) → bit (2 ^ x) y ≡ 1 → y ≡ x
one_only zero zero h = refl
one_only zero (suc y) h = absurd (let a = bit_half 1 y in let b = zero_bit y in omega arith)
one_only (suc x) zero h = absurd (let a = bit_low (2 ^ suc x) in let e = pow-suc 2 x in omega arith)
one_only (suc x) (suc y) h =
    let half : 2 ^ suc x / 2 ≡ 2 ^ x = let e = pow-suc 2 x in omega arith in
    ap suc (one_only x y (sym (bit_half (2 ^ suc x) y ∙ ap (λ k. bit k y) half) ∙ h))

-- the set of state x alone has the state x and no other
pub one_member : (x y : ℕ) → Member (one x) y ↔ (y ≡ x)
unfolding one
one_member x y = (one_only x y, λ e. subst (λ k. bit (2 ^ x) k ≡ 1) (sym e) (one_in x))

-- no state is in the empty set
pub empty_none : (x : ℕ) → Member 0 x → ⊥
empty_none x h = let e = zero_bit x in omega arith

-- a bit of the union is the greater of the two
union_bit : (v w x : ℕ) → bit (union v w) x ≡ max (bit v x) (bit w x)
unfolding bit
union_bit v w x =
    let step = or_step (v / 2 ^ x) (w / 2 ^ x) in
    ap (λ k. k % 2) (or_shr v w x) ∙ omega arith

-- a state is in the union where it is in one of the two
pub union_member : (v w x : ℕ) → Member (union v w) x ↔ (Member v x ⊎ Member w x)
union_member v w x =
    let e = union_bit v w x in
    let sv = bit_small v x in
    let sw = bit_small w x in (
      λ h. by_eq (bit v x) 1 (λ i. inl i) (λ ne. inr (omega arith)),
      λ h. elim h [ inl i ↦ omega arith | inr i ↦ omega arith ],
    )

-- a bit of the common part is the lesser of the two
common_bit : (v w x : ℕ) → bit (common v w) x ≡ min (bit v x) (bit w x)
unfolding bit
common_bit v w x =
    let step = and_step (v / 2 ^ x) (w / 2 ^ x) in
    ap (λ k. k % 2) (and_shr v w x) ∙ omega arith

-- a state is in the common part where it is in both
pub common_member : (v w x : ℕ) → Member (common v w) x ↔ (Member v x × Member w x)
common_member v w x =
    let e = common_bit v w x in
    let sv = bit_small v x in
    let sw = bit_small w x in
    (λ h. (omega arith, omega arith), λ h. omega arith)

-- a number below 2 ^ s has no bit from s on
pub bit_above : (s w x : ℕ) → w < 2 ^ s → s ≤ x → bit w x ≡ 0
unfolding bit
bit_above s w x h k = ap (λ n. n % 2) (div-eq_of_lt (lt_of_lt_of_le h (pow_mono k)))

-- a state of a set below 2 ^ s is below s
pub member_within : (s w x : ℕ) → w < 2 ^ s → Member w x → x < s
member_within s w x h i = by_lt x s (λ k. k) (λ k. absurd (let e = bit_above s w x h k in omega arith))

-- the half of a set below 2 ^ (s + 1) is below 2 ^ s
pub half_within : (s w : ℕ) → w < 2 ^ suc s → w / 2 < 2 ^ s
half_within s w h = let e = pow-suc 2 s in omega arith

-- a set that is not empty has a state
pub member_some : (s w : ℕ) → w < 2 ^ s → 0 < w → (x : ℕ) × (x < s) × Member w x
member_some zero w h p = absurd (omega arith)
member_some (suc s) w h p =
    let low = bit_low w in
    by_eq (w % 2) 1 (λ e. (0, omega arith, omega arith))
    (λ ne. let rest = member_some s (w / 2) (half_within s w h) (omega arith) in
    (suc rest.0, omega arith, bit_half w rest.0 ∙ rest.2))

-- a bit is the same in two sets where the state is in both or in neither
pub bit_same : (v w x : ℕ) → (Member v x ↔ Member w x) → bit v x ≡ bit w x
bit_same v w x h =
    by_eq (bit v x) 1 (λ e. e ∙ sym (h.0 e))
    (λ ne. bit_none v x ne ∙ sym (bit_none w x (λ i. ne (h.1 i))))

-- two numbers below 2 ^ s with the same bits are the same
bits_same : (s v w : ℕ) → v < 2 ^ s → w < 2 ^ s → ((x : ℕ) → x < s → bit v x ≡ bit w x) → v ≡ w
bits_same zero v w h k same = omega arith
bits_same (suc s) v w h k same =
    let low : v % 2 ≡ w % 2 = sym (bit_low v) ∙ same 0 (omega arith) ∙ bit_low w in
    let rest : v / 2 ≡ w / 2 = bits_same s (v / 2) (w / 2) (half_within s v h) (half_within s w k)
    (λ x i. sym (bit_half v x) ∙ same (suc x) (omega arith) ∙ bit_half w x) in
    omega arith

-- two sets with the same states are the same
pub set_same : (s v w : ℕ) → v < 2 ^ s → w < 2 ^ s → ((x : ℕ) → x < s → (Member v x ↔ Member w x)) → v ≡ w
set_same s v w h k same = bits_same s v w h k (λ x i. bit_same v w x (same x i))

-- a set of at most the most states fits the bits of a cell
pub states_fit : (s : ℕ) → s ≤ most_states → 2 ^ s ≤ 2 ^ cell_bits
states_fit s few = let within : s ≤ cell_bits = omega arith in pow_mono within

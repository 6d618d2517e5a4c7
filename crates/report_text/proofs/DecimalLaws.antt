-- Laws of decimal digits: they are digits, without a leading zero, and give their number back.
-- Assumes nothing.
use mathlib.Core.Bool.{Bool, true, false}
use mathlib.Core.List.{List, [], ◌∷◌, ◌++◌, append-nil}
use mathlib.Core.Path.{◌≡◌, refl, ap, ap₂, sym, ◌∙◌, subst}
use Prim.Native.Nat.{ℕ, zero, suc, ◌+◌, ◌*◌, ◌-◌, ◌/◌, ◌%◌, ◌^◌, ◌≤◌, ◌<◌}
use native.Mathlib.Nat.{pow-succ'}
use native.Mathlib.Omega.{arith}
use borrow.Author.Tests.{lt-ltb, le-ltb}
use lib.ListN.{length, get_or, length-append, get_or-append}
use lib.Seq.{append_snoc, get_or-append_seam}
use Rattle.parsimony.proofs.Order.{by_lt, strong}
use Rattle.report_text.specs.Decimal.{digits_by, decimal_by, decimal, value_from, decimal_value}

digits_one : {b : Bool} (tens : ℕ → List ℕ) (n : ℕ) → b ≡ true → digits_by b tens n ≡ (48 + n) ∷ []
unfolding digits_by
digits_one tens n e = ap (λ b. digits_by b tens n) e

digits_more : {b : Bool} (tens : ℕ → List ℕ) (n : ℕ) → b ≡ false
    → digits_by b tens n ≡ tens (n / 10) ++ ((48 + n % 10) ∷ [])
unfolding digits_by
digits_more tens n e = ap (λ b. digits_by b tens n) e

-- it does not matter which bound the number is below
decimal_enough : (k m n : ℕ) → n < k → n < m → decimal_by k n ≡ decimal_by m n
unfolding decimal_by
decimal_enough zero m n f g = absurd (omega arith)
decimal_enough (suc k) zero n f g = absurd (omega arith)
decimal_enough (suc k) (suc m) n f g =
    by_lt n 10 (λ small. digits_one _ n (lt-ltb n 10 small) ∙ sym (digits_one _ n (lt-ltb n 10 small)))
    (λ more. digits_more _ n (le-ltb n 10 more)
    ∙ ap (λ digits. digits ++ ((48 + n % 10) ∷ [])) (decimal_enough k m (n / 10) (omega arith) (omega arith))
    ∙ sym (digits_more _ n (le-ltb n 10 more)))

-- a number below 10 is its digit
pub decimal_small : (n : ℕ) → n < 10 → decimal n ≡ (48 + n) ∷ []
unfolding decimal
decimal_small n small = digits_one _ n (lt-ltb n 10 small)

-- any other number has the digits of its tens, and then its last
pub decimal_more : (n : ℕ) → 10 ≤ n → decimal n ≡ decimal (n / 10) ++ ((48 + n % 10) ∷ [])
unfolding decimal
decimal_more n more =
    digits_more _ n (le-ltb n 10 more)
    ∙ ap (λ digits. digits ++ ((48 + n % 10) ∷ []))
    (decimal_enough n (suc (n / 10)) (n / 10) (omega arith) (omega arith))

-- a fact of digits that holds of one digit, and of a number's digits where it holds of its tens', holds of all
by_digits : (P : ℕ → List ℕ → Type 0) → ((n : ℕ) → n < 10 → P n ((48 + n) ∷ []))
    → ((n : ℕ) → 10 ≤ n → P (n / 10) (decimal (n / 10)) → P n (decimal (n / 10) ++ ((48 + n % 10) ∷ [])))
    → (n : ℕ) → P n (decimal n)
by_digits P one more = strong (λ n. P n (decimal n))
    (λ n lower. by_lt n 10 (λ small. subst (P n) (sym (decimal_small n small)) (one n small))
    (λ large. subst (P n) (sym (decimal_more n large)) (more n large (lower (n / 10) (omega arith)))))

-- one digit more: ten times the number, and the digit
pub value_snoc : (n digit : ℕ) (digits : List ℕ)
    → value_from n (digits ++ (digit ∷ [])) ≡ value_from n digits * 10 + (digit - 48)
unfolding value_from
value_snoc n digit [] = refl
value_snoc n digit (first ∷ more) = value_snoc (n * 10 + (first - 48)) digit more

-- the digits of a number stand for it
pub decimal_value_lem : (n : ℕ) → decimal_value (decimal n) ≡ n
unfolding decimal_value
decimal_value_lem =
    by_digits (λ n digits. value_from 0 digits ≡ n) one
    (λ n large same. value_snoc 0 (48 + n % 10) (decimal (n / 10))
    ∙ last n large (value_from 0 (decimal (n / 10))) same)
  where
    one : (n : ℕ) → n < 10 → value_from 0 ((48 + n) ∷ []) ≡ n
    one n small = value_snoc 0 (48 + n) [] ∙ omega arith

    last : (n : ℕ) → 10 ≤ n → (tens : ℕ) → tens ≡ n / 10 → tens * 10 + (48 + n % 10 - 48) ≡ n
    last n large tens same = omega arith

-- so two numbers with the same digits are the same
pub decimal_apart : (n m : ℕ) → decimal n ≡ decimal m → n ≡ m
decimal_apart n m same = sym (decimal_value_lem n) ∙ ap decimal_value same ∙ decimal_value_lem m

-- they are as many as the bound asks
pub decimal_length : (k n : ℕ) → n < 10 ^ suc k → length (decimal n) ≤ suc k
decimal_length zero n small = subst (λ l. length l ≤ 1) (sym (decimal_small n (omega arith))) (omega arith)
decimal_length (suc k) n few =
    by_lt n 10 (λ small. subst (λ l. length l ≤ suc (suc k)) (sym (decimal_small n small)) (omega arith))
    (λ large. let power = pow-succ' 10 (suc k) in
    let tens = decimal_length k (n / 10) (omega arith) in
    subst (λ l. length l ≤ suc (suc k)) (sym (decimal_more n large))
    (let long = length-append (decimal (n / 10)) ((48 + n % 10) ∷ []) in omega arith))

-- and at least one
pub decimal_some : (n : ℕ) → 0 < length (decimal n)
decimal_some =
    by_digits (λ n digits. 0 < length digits) (λ n small. omega arith)
    (λ n large some. let long = length-append (decimal (n / 10)) ((48 + n % 10) ∷ []) in omega arith)

-- the bytes at each place are digits
abbrev pub Digits : List ℕ → Type 0
Digits text = (i : ℕ) → i < length text → (48 ≤ get_or text i 0) × (get_or text i 0 ≤ 57)

-- one digit more
digits_snoc : (text : List ℕ) (digit : ℕ) → Digits text → (48 ≤ digit) × (digit ≤ 57) → Digits (text ++ (digit ∷ []))
digits_snoc text digit low top i h =
    let long = length-append text (digit ∷ []) in
    by_lt i (length text)
    (λ inside. subst (λ d. (48 ≤ d) × (d ≤ 57)) (sym (get_or-append text (digit ∷ []) 0 i inside)) (low i inside))
    (λ over. let last : i ≡ length text = omega arith in
    subst (λ d. (48 ≤ d) × (d ≤ 57))
    (sym (ap (λ k. get_or (text ++ (digit ∷ [])) k 0) last ∙ get_or-append_seam text digit [] 0)) top)

-- each byte is a digit
pub decimal_digit : (n i : ℕ) → i < length (decimal n) → (48 ≤ get_or (decimal n) i 0) × (get_or (decimal n) i 0 ≤ 57)
decimal_digit =
    by_digits (λ n. Digits)
    (λ n small. digits_snoc [] (48 + n) (λ i h. absurd (omega arith)) (omega arith, omega arith))
    (λ n large tens. digits_snoc (decimal (n / 10)) (48 + n % 10) tens (omega arith, omega arith))

-- and the first is not 0 unless the number is
pub decimal_lead : (n : ℕ) → 0 < n → 48 < get_or (decimal n) 0 0
decimal_lead =
    by_digits (λ n digits. 0 < n → 48 < get_or digits 0 0) (λ n small some. omega arith)
    (λ n large tens some. subst (λ d. 48 < d) (sym (get_or-append (decimal (n / 10)) _ 0 0 (decimal_some (n / 10))))
    (tens (omega arith)))

-- digits after those of a number that is not 0 are the digits of the number that they make
decimal_after : (n : ℕ) → 0 < n → (more : List ℕ) → Digits more → decimal (value_from n more) ≡ decimal n ++ more
unfolding value_from
decimal_after n some [] digits = sym (append-nil (decimal n))
decimal_after n some (digit ∷ more) digits =
    let here = digits 0 (omega arith) in
    let next : decimal (n * 10 + (digit - 48)) ≡ decimal n ++ (digit ∷ []) =
    decimal_more (n * 10 + (digit - 48)) (omega arith)
    ∙ ap₂ (λ tens last. decimal tens ++ (last ∷ [])) (omega arith) (omega arith) in
    decimal_after (n * 10 + (digit - 48)) (omega arith) more (λ i h. digits (suc i) (omega arith))
    ∙ ap (λ text. text ++ more) next
    ∙ append_snoc (decimal n) digit more

-- no other digits without a leading zero stand for a number
pub decimal_only : (first : ℕ) (more : List ℕ) → 49 ≤ first → first ≤ 57 → Digits more
    → decimal (decimal_value (first ∷ more)) ≡ first ∷ more
unfolding decimal_value
decimal_only first more least most digits =
    decimal_after (0 * 10 + (first - 48)) (omega arith) more digits
    ∙ ap (λ text. text ++ more) (decimal_small (0 * 10 + (first - 48)) (omega arith))
    ∙ ap (λ digit. digit ∷ more) (omega arith)

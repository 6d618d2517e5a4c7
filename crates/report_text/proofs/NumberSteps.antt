-- The digits of a number at the start of a room: those of its tens, and then its last.
-- Assumes nothing.
use Rattle.std.proofs.Common.{◌≡◌, ℕ, suc, ◌+◌, ◌/◌, ◌%◌, ◌^◌, ◌<◌, ◌≤◌, List, [], ◌∷◌, ◌++◌, length, get_or, set, drop}
use Rattle.std.proofs.Common.{refl, ap, ap₂, sym, subst, ◌∙◌, append_assoc, length-append, arith}
use Rattle.std.proofs.Math.Seq.{set-append_seam, drop-cons}
use Rattle.report_text.specs.Decimal.{decimal}
use Rattle.report_text.specs.Starts.{StartsWith}
use Rattle.report_text.proofs.DecimalLaws.{decimal_small, decimal_more, decimal_length, decimal_some}

-- a number has one digit more than its tens
pub tens_length : (n : ℕ) → 10 ≤ n → length (decimal n) ≡ length (decimal (n / 10)) + 1
tens_length n large =
    ap length (decimal_more n large) ∙ length-append (decimal (n / 10)) ((48 + n % 10) ∷ []) ∙ omega arith

-- and there is at least one
pub number_some : (n : ℕ) → 1 ≤ length (decimal n)
number_some n = decimal_some n

-- a number of 64 bits has at most twenty
pub number_fits : (n : ℕ) → n < 2 ^ 64 → length (decimal n) ≤ 20
number_fits n small = decimal_length 19 n (omega arith)

-- a text at the start of a room, and then one byte more
start_more : (text room now : List ℕ) (count byte : ℕ) → length text < length room
    → StartsWith text room now count → StartsWith (text ++ byte ∷ []) room (set now count byte) (count + 1)
start_more text room now count byte fits starts =
    let k = length text in
    let rest = drop (suc k) room in
    let long = length-append text (byte ∷ []) in
    let size = starts.long in
    record {
      bytes = ap₂ (λ l i. set l i byte)
          (starts.bytes ∙ ap (λ r. text ++ r) (drop-cons room k 0 fits)) starts.long
          ∙ set-append_seam text (get_or room k 0) rest byte
          ∙ sym (append_assoc text (byte ∷ []) rest)
          ∙ ap (λ j. (text ++ byte ∷ []) ++ drop j room) (let e : suc k ≡ length (text ++ byte ∷ []) = omega arith in e);
      long = omega arith;
    }

-- the digits of the tens and then the last digit are those of the number
pub digits_tens : (n count : ℕ) (room now : List ℕ) → 10 ≤ n → length (decimal n) ≤ length room
    → StartsWith (decimal (n / 10)) room now count
    → StartsWith (decimal n) room (set now count (48 + n % 10)) (count + 1)
digits_tens n count room now large fits starts =
    let long = tens_length n large in
    subst (λ digits. StartsWith digits room (set now count (48 + n % 10)) (count + 1)) (sym (decimal_more n large))
    (start_more (decimal (n / 10)) room now count (48 + n % 10) (omega arith) starts)

-- a number below 10 has one digit
pub digits_last : (n : ℕ) (room : List ℕ) → n < 10 → length (decimal n) ≤ length room
    → StartsWith (decimal n) room (set room 0 (48 + n)) 1
digits_last n room small fits =
    let some = decimal_some n in
    subst (λ digits. StartsWith digits room (set room 0 (48 + n)) 1) (sym (decimal_small n small))
    (start_more [] room room 0 (48 + n) (omega arith) (record { bytes = refl; long = refl }))

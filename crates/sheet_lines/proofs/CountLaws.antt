-- Limits of the numbers, fields and counts that are read.
-- Assumes nothing.
use mathlib.Core.Bool.{Bool, true, false}
use mathlib.Core.List.{List}
use mathlib.Core.Path.{◌≡◌, refl, ◌∙◌}
use Prim.Native.Nat.{ℕ, ◌≤◌}
use native.Mathlib.Omega.{arith}
use borrow.Author.Tests.{leb-true}
use lib.Dec.{leb}
use lib.ListN.{length, get_or, drop}
use Rattle.std.proofs.Common.{Option, Some, None, Ok}
use Rattle.sheet_lines.specs.Count.{count_of}
use Rattle.sheet_lines.specs.Number.{limit, number_in, number_at, field_of}
use Rattle.sheet_lines.specs.Word.{word_of}
use Rattle.parsimony.proofs.Order.{by_lt, by_eq}
use Rattle.parsimony.specs.Test.{pick}
use Rattle.sheet_lines.proofs.Answers.{no_count, no_value, same_count, same_value}
use Rattle.sheet_lines.proofs.CountSteps.{count_no_word, count_no_number, count_few, count_whole}
use Rattle.sheet_lines.proofs.NumberSteps.{field_none, field_past, field_other, field_whole}

limit_most : (most n next : ℕ) (number : Option (ℕ × ℕ)) → limit most number ≡ Some (n, next) → n ≤ most
unfolding limit
limit_most most n next (Some (m, i)) e = by_test (leb m most) refl e
  where
    by_test : (b : Bool) → leb m most ≡ b → pick {A = Option (ℕ × ℕ)} b (Some (m, i)) None ≡ Some (n, next) → n ≤ most
    by_test true t e₂ = let same = same_value e₂ in let low = leb-true m most t in omega arith
    by_test false t e₂ = let z : ◌≡◌ {A = ℕ} 0 1 = cc in absurd (omega arith)
limit_most most n next None e = let z : ◌≡◌ {A = ℕ} 0 1 = cc in absurd (omega arith)

-- a number that is read is at most its limit
pub number_most : (most : ℕ) (sheet : List ℕ) (at n next : ℕ) → number_at most sheet at ≡ Some (n, next) → n ≤ most
unfolding number_at
number_most most sheet at n next e = limit_most most n next (number_in (drop at sheet) at) e

-- the number of a field that is read is at most its limit, and the place after it is within the sheet
pub record FieldRead (most : ℕ) (sheet : List ℕ) (n next : ℕ) : Type 0 where
  pub small : n ≤ most
  pub inside : next ≤ length sheet

pub field_read : (most stop : ℕ) (sheet : List ℕ) (at n next : ℕ) → field_of most stop sheet at ≡ Some (n, next)
    → FieldRead most sheet n next
field_read most stop sheet at n next e = by_number (number_at most sheet at) refl
  where
    by_number : (p : Option (ℕ × ℕ)) → number_at most sheet at ≡ p → FieldRead most sheet n next
    by_number None r = no_value (field_none most stop sheet at r) e
    by_number (Some (m, i)) r =
        by_lt i (length sheet)
        (λ h. by_eq (get_or sheet i 0) stop
        (λ stopped.
        let w = field_whole most stop sheet at m i r h stopped ∙ e in
        let same = same_value w in
        let low = number_most most sheet at m i r in
        record { small = omega arith; inside = omega arith })
        (λ other. no_value (field_other most stop sheet at m i r h other) e))
        (λ past. no_value (field_past most stop sheet at m i r past) e)

pub field_small : (most stop : ℕ) (sheet : List ℕ) (at n next : ℕ) → field_of most stop sheet at ≡ Some (n, next)
    → n ≤ most
field_small most stop sheet at n next e = (field_read most stop sheet at n next e).small

-- a count that is read is in its range, and the place of the next line is within the sheet
pub record CountRead (least most : ℕ) (sheet : List ℕ) (n next : ℕ) : Type 0 where
  pub enough : least ≤ n
  pub small : n ≤ most
  pub inside : next ≤ length sheet

pub count_read : (word : List ℕ) (least most : ℕ) (sheet : List ℕ) (at line n next : ℕ)
    → count_of word least most sheet at line ≡ Ok (n, next) → CountRead least most sheet n next
count_read word least most sheet at line n next e = by_word (word_of word sheet at) refl
  where
    by_field : (digits : ℕ) → word_of word sheet at ≡ Some digits → (p : Option (ℕ × ℕ))
        → field_of most 10 sheet digits ≡ p
        → CountRead least most sheet n next
    by_field digits w None f = no_count (count_no_number word least most sheet at line digits w f) e
    by_field digits w (Some (m, i)) f =
        by_lt m least (λ h. no_count (count_few word least most sheet at line digits m i w f h) e)
        (λ h.
        let c = count_whole word least most sheet at line digits m i w f h ∙ e in
        let same = same_count c in
        let read = field_read most 10 sheet digits m i f in
        record {
          enough = omega arith;
          small = omega (arith, read.small);
          inside = omega (arith, read.inside);
        })

    by_word : (p : Option ℕ) → word_of word sheet at ≡ p → CountRead least most sheet n next
    by_word None w = no_count (count_no_word word least most sheet at line w) e
    by_word (Some digits) w = by_field digits w (field_of most 10 sheet digits) refl

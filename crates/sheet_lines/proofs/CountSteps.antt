-- A count line, part by part.
-- Assumes nothing.
use mathlib.Core.List.{List}
use mathlib.Core.Path.{◌≡◌, sym}
use Prim.Native.Nat.{ℕ, ◌<◌, ◌≤◌}
use borrow.Author.Tests.{lt-ltb, le-ltb}
use Rattle.std.proofs.Common.{Some, None, Ok, Err}
use Rattle.sheet_lines.specs.Count.{on_place, count_of}
use Rattle.sheet_lines.specs.Number.{field_of, on_number}
use Rattle.sheet_lines.specs.Word.{word_of}
use Rattle.sheet_lines.specs.declared.Fault.TheVariants.{Sheet}
use Rattle.parsimony.proofs.Order.{pick_true, pick_false}

module _ (word : List ℕ) (least most : ℕ) (sheet : List ℕ) (at line : ℕ) where
  -- no word
  pub count_no_word : word_of word sheet at ≡ None → Err (Sheet line) ≡ count_of word least most sheet at line
  unfolding count_of on_place
  count_no_word e = rw e

  -- no number with a line end
  pub count_no_number : (digits : ℕ) → word_of word sheet at ≡ Some digits → field_of most 10 sheet digits ≡ None
      → Err (Sheet line) ≡ count_of word least most sheet at line
  unfolding count_of on_place on_number
  count_no_number digits e f = rw (e, f)

  -- a number below the least
  pub count_few : (digits n next : ℕ) → word_of word sheet at ≡ Some digits
      → field_of most 10 sheet digits ≡ Some (n, next)
      → n < least → Err (Sheet line) ≡ count_of word least most sheet at line
  unfolding count_of on_place on_number
  count_few digits n next e f h = rw (e, f) (sym (pick_true _ _ (lt-ltb _ _ h)))

  -- a count
  pub count_whole : (digits n next : ℕ) → word_of word sheet at ≡ Some digits
      → field_of most 10 sheet digits ≡ Some (n, next)
      → least ≤ n → Ok (n, next) ≡ count_of word least most sheet at line
  unfolding count_of on_place on_number
  count_whole digits n next e f h = rw (e, f) (sym (pick_false _ _ (le-ltb _ _ h)))

-- No second outcome meets the promise of the entry, and its code loses nothing.
-- Assumes nothing.
use mathlib.Core.List.{List}
use mathlib.Core.Path.{◌≡◌, sym, ◌∙◌}
use Prim.Native.Nat.{ℕ, ◌/◌, ◌%◌, ◌<◌}
use lib.ListN.{length}
use Rattle.answer_codes.proofs.CodeLaws.{packed_number, packed_carried}
use Rattle.exchange.specs.Entry.{Outcome, done, refused, outcome_code, Entered}

-- two outcomes of one call are the same: the code, and every byte lent
pub entry_outcome : (sheet : List ℕ) (j : ℕ) (out : List ℕ) (a b : ℕ) (out₁ out₂ : List ℕ) → Entered sheet j out a out₁
    → Entered sheet j out b out₂ → (a ≡ b) × (out₁ ≡ out₂)
entry_outcome sheet j out a b out₁ out₂ f g = (f.answer ∙ sym g.answer, f.output ∙ sym g.output)

-- the number of an outcome, and what stands above it
abbrev pub outcome_number : Outcome → ℕ
outcome_number (done line) = 0
outcome_number (refused number carried) = number

abbrev pub outcome_carries : Outcome → ℕ
outcome_carries (done line) = length line
outcome_carries (refused number carried) = carried

-- both are read back from the code, where the number is below 256
pub entry_number : (o : Outcome) → outcome_number o < 256 → outcome_code o % 256 ≡ outcome_number o
unfolding outcome_code
entry_number (done line) h = packed_number 0 (length line) h
entry_number (refused number carried) h = packed_number number carried h

pub entry_carried : (o : Outcome) → outcome_number o < 256 → outcome_code o / 256 ≡ outcome_carries o
unfolding outcome_code
entry_carried (done line) h = packed_carried 0 (length line) h
entry_carried (refused number carried) h = packed_carried number carried h

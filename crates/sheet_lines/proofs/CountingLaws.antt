-- A count line and its section, case by case.
-- Assumes nothing.
use mathlib.Core.List.{List}
use mathlib.Core.Path.{◌≡◌, refl, ap, subst, ◌∙◌}
use Prim.Native.Nat.{ℕ}
use native.Mathlib.Omega.{arith}
use Rattle.std.proofs.Common.{Result, Ok, Err}
use Rattle.sheet_lines.specs.Counting.{GivesCount, counting, with_count}
use Rattle.sheet_lines.specs.Section.{Section, GivesSection, wrote}
use Rattle.sheet_lines.specs.declared.Fault.{Fault}
use Rattle.sheet_lines.proofs.Answers.{same_count}

module _ {A : Type 0} (go : ℕ → ℕ → Section A) (count : Result (ℕ × ℕ) Fault) (entry : List A) where
  -- no count: nothing is written
  pub counting_none : (fault : Fault) {answer : Result (ℕ × ℕ) Fault} → count ≡ Err fault → answer ≡ Err fault
      → GivesCount (counting count go) answer entry entry
  unfolding counting wrote
  counting_none fault e said =
      rw e
      (record { said = said; written = refl })

  -- a count, and what its section gives
  pub counting_some : (n next : ℕ) (part : Result ℕ Fault) (answer : Result (ℕ × ℕ) Fault) (exit : List A)
      → count ≡ Ok (n, next)
      → GivesSection (go n next) part entry exit → answer ≡ with_count n part
      → GivesCount (counting count go) answer entry exit
  unfolding counting
  counting_some n next part answer exit e gives a =
      rw e
      (record { said = a ∙ ap (with_count n) gives.said; written = gives.written })

with_read : (n m next : ℕ) (part : Result ℕ Fault) → with_count n part ≡ Ok (m, next) → (n ≡ m) × (part ≡ Ok next)
unfolding with_count
with_read n m next (Ok i) e = let same = same_count e in (same.0, ap Ok same.1)
with_read n m next (Err f) e = let z : ◌≡◌ {A = ℕ} 0 1 = cc in absurd (omega arith)

-- a section that is read: its count line is read, and its lines after it
pub counting_read : {A : Type 0} (go : ℕ → ℕ → Section A) (count : Result (ℕ × ℕ) Fault) (n next : ℕ)
    → (counting count go).count ≡ Ok (n, next)
    → (from : ℕ)
    × (count ≡ Ok (n, from))
    × ((go n from).part ≡ Ok next)
    × ((counting count go).items ≡ (go n from).items)
unfolding counting
counting_read go (Ok (m, from)) n next e =
    let read = with_read m n next (go m from).part e in
    let same : m ≡ n = read.0 in (
      from,
      ap (λ k. Ok (k, from)) same,
      subst (λ k. (go k from).part ≡ Ok next) same read.1,
      ap (λ k. (go k from).items) same,
    )
counting_read go (Err f) n next e = let z : ◌≡◌ {A = ℕ} 0 1 = cc in absurd (omega arith)

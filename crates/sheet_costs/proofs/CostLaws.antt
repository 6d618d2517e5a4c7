-- What a row of the cost table that is read says of its costs, and what the count of the costs is.
-- Assumes nothing.
use mathlib.Core.Bool.{Bool, true, false}
use mathlib.Core.List.{List, [], ◌∷◌}
use mathlib.Core.Logic.{◌⊎◌, inl, inr, ⊎_elim}
use mathlib.Core.Path.{◌≡◌, refl, sym, subst, ◌∙◌}
use Prim.Native.Nat.{ℕ, zero, suc, ◌≤◌}
use native.Mathlib.Omega.{arith}
use borrow.Author.Tests.{eqb-true}
use lib.Dec.{eqb}
use lib.ListN.{get_or}
use Rattle.std.proofs.Common.{Option, Some, None, Result, Ok, Err}
use Rattle.sheet_costs.specs.CostRules.{RowRules}
use Rattle.sheet_costs.specs.Costs.{cost_row_of, cost_count, costs_of}
use Rattle.sheet_lines.proofs.Answers.{no_item, same_item, no_count, same_count}
use Rattle.sheet_lines.proofs.CountLaws.{field_read}
use Rattle.sheet_lines.proofs.CountingLaws.{counting_read}
use Rattle.sheet_lines.specs.Bytes.{bytes}
use Rattle.sheet_lines.specs.Count.{count_of}
use Rattle.sheet_lines.specs.Counting.{GivesCount, on_count}
use Rattle.sheet_lines.specs.Number.{field_of, on_number}
use Rattle.sheet_lines.specs.Section.{item, fault}
use Rattle.sheet_lines.specs.declared.Fault.TheVariants.{Sheet}
use Rattle.parsimony.specs.Test.{pick}
use Rattle.sheet_lines.specs.declared.Fault.{Fault}

-- four costs of at most 999, of which the x-th is 0
pub four_costs : (x a b c d : ℕ) → a ≤ 999 → b ≤ 999 → c ≤ 999 → d ≤ 999 → get_or (a ∷ b ∷ c ∷ d ∷ []) x 0 ≡ 0
    → RowRules x (a ∷ b ∷ c ∷ d ∷ [])
four_costs x a b c d ha hb hc hd stay = record { size = refl; cheap = cheap; stay = stay }
  where
    cheap : (y : ℕ) → get_or (a ∷ b ∷ c ∷ d ∷ []) y 0 ≤ 999
    cheap zero = ha
    cheap (suc zero) = hb
    cheap (suc (suc zero)) = hc
    cheap (suc (suc (suc zero))) = hd
    cheap (suc (suc (suc (suc y)))) = omega arith

-- a row that is read keeps the rules
pub cost_row_rules : (sheet : List ℕ) (x at line : ℕ) (row : List ℕ) (next : ℕ)
    → cost_row_of sheet x at line ≡ item row next → RowRules x row
unfolding cost_row_of on_number pick
cost_row_rules sheet x at line row next read = by_a (field_of 999 32 sheet at) refl read
  where
    by_test : (a b c d i : ℕ) → a ≤ 999 → b ≤ 999 → c ≤ 999 → d ≤ 999 → (t : Bool)
        → eqb (get_or (a ∷ b ∷ c ∷ d ∷ []) x 0) 0 ≡ t
        → pick t (item (a ∷ b ∷ c ∷ d ∷ []) i) (fault (Sheet line)) ≡ item row next → RowRules x row
    by_test a b c d i ha hb hc hd true t e =
        subst (RowRules x) (sym (same_item refl e))
        (four_costs x a b c d ha hb hc hd (eqb-true (get_or (a ∷ b ∷ c ∷ d ∷ []) x 0) 0 t))
    by_test a b c d i ha hb hc hd false t e = no_item refl e

    by_d : (a b c fourth : ℕ) → a ≤ 999 → b ≤ 999 → c ≤ 999 → (p : Option (ℕ × ℕ)) → field_of 999 10 sheet fourth ≡ p
        → on_number p (fault (Sheet line))
        (λ d i. pick (eqb (get_or (a ∷ b ∷ c ∷ d ∷ []) x 0) 0) (item (a ∷ b ∷ c ∷ d ∷ []) i) (fault (Sheet line)))
        ≡ item row next
        → RowRules x row
    by_d a b c fourth ha hb hc None f e = no_item refl e
    by_d a b c fourth ha hb hc (Some (d, i)) f e =
        by_test a b c d i ha hb hc (field_read 999 10 sheet fourth d i f).small
        (eqb (get_or (a ∷ b ∷ c ∷ d ∷ []) x 0) 0) refl e

    by_c : (a b third : ℕ) → a ≤ 999 → b ≤ 999 → (p : Option (ℕ × ℕ)) → field_of 999 32 sheet third ≡ p
        → on_number p (fault (Sheet line))
        (λ c fourth. on_number (field_of 999 10 sheet fourth) (fault (Sheet line))
        (λ d i. pick (eqb (get_or (a ∷ b ∷ c ∷ d ∷ []) x 0) 0) (item (a ∷ b ∷ c ∷ d ∷ []) i) (fault (Sheet line))))
        ≡ item row next
        → RowRules x row
    by_c a b third ha hb None f e = no_item refl e
    by_c a b third ha hb (Some (c, i)) f e =
        by_d a b c i ha hb (field_read 999 32 sheet third c i f).small (field_of 999 10 sheet i) refl e

    by_b : (a second : ℕ) → a ≤ 999 → (p : Option (ℕ × ℕ)) → field_of 999 32 sheet second ≡ p
        → on_number p (fault (Sheet line))
        (λ b third. on_number (field_of 999 32 sheet third) (fault (Sheet line))
        (λ c fourth. on_number (field_of 999 10 sheet fourth) (fault (Sheet line))
        (λ d i. pick (eqb (get_or (a ∷ b ∷ c ∷ d ∷ []) x 0) 0) (item (a ∷ b ∷ c ∷ d ∷ []) i) (fault (Sheet line)))))
        ≡ item row next
        → RowRules x row
    by_b a second ha None f e = no_item refl e
    by_b a second ha (Some (b, i)) f e =
        by_c a b i ha (field_read 999 32 sheet second b i f).small (field_of 999 32 sheet i) refl e

    by_a : (p : Option (ℕ × ℕ)) → field_of 999 32 sheet at ≡ p
        → on_number p (fault (Sheet line))
        (λ a second. on_number (field_of 999 32 sheet second) (fault (Sheet line))
        (λ b third. on_number (field_of 999 32 sheet third) (fault (Sheet line))
        (λ c fourth. on_number (field_of 999 10 sheet fourth) (fault (Sheet line))
        (λ d i. pick (eqb (get_or (a ∷ b ∷ c ∷ d ∷ []) x 0) 0) (item (a ∷ b ∷ c ∷ d ∷ []) i) (fault (Sheet line))))))
        ≡ item row next
        → RowRules x row
    by_a None f e = no_item refl e
    by_a (Some (a, i)) f e = by_b a i (field_read 999 32 sheet at a i f).small (field_of 999 32 sheet i) refl e

-- the count of the costs is 0 or 4
pub cost_count_is : (sheet : List ℕ) (at line k next : ℕ) → cost_count sheet at line ≡ Ok (k, next) → (k ≡ 0) ⊎ (k ≡ 4)
unfolding cost_count on_count pick
cost_count_is sheet at line k next read = by_count (count_of (bytes "costs ") 0 4 sheet at line) read
  where
    by_four : (n i : ℕ) (t : Bool) → eqb n 4 ≡ t
        → pick {A = Result (ℕ × ℕ) Fault} t (Ok (n, i)) (Err (Sheet line)) ≡ Ok (k, next)
        → (k ≡ 0) ⊎ (k ≡ 4)
    by_four n i true t e = inr (sym (same_count e).0 ∙ eqb-true n 4 t)
    by_four n i false t e = no_count refl e

    by_zero : (n i : ℕ) (t : Bool) → eqb n 0 ≡ t
        → pick {A = Result (ℕ × ℕ) Fault} t (Ok (n, i)) (pick (eqb n 4) (Ok (n, i)) (Err (Sheet line))) ≡ Ok (k, next)
        → (k ≡ 0) ⊎ (k ≡ 4)
    by_zero n i true t e = inl (sym (same_count e).0 ∙ eqb-true n 0 t)
    by_zero n i false t e = by_four n i (eqb n 4) refl e

    by_count : (c : Result (ℕ × ℕ) Fault)
        → on_count {A = Result (ℕ × ℕ) Fault} c Err
        (λ n i. pick (eqb n 0) (Ok (n, i)) (pick (eqb n 4) (Ok (n, i)) (Err (Sheet line))))
        ≡ Ok (k, next)
        → (k ≡ 0) ⊎ (k ≡ 4)
    by_count (Ok (n, i)) e = by_zero n i (eqb n 0) refl e
    by_count (Err f) e = no_count refl e

-- the same of the whole section
pub costs_count : (sheet : List ℕ) (at line k next : ℕ) → (costs_of sheet at line).count ≡ Ok (k, next)
    → (k ≡ 0) ⊎ (k ≡ 4)
unfolding costs_of
costs_count sheet at line k next e =
    let read = counting_read _ _ k next e in
    cost_count_is sheet at line k read.0 read.1

-- so it is at most 4, where the section's reader answers with it
pub costs_few : (sheet : List ℕ) (at line : ℕ) {k next : ℕ} {answer : Result (ℕ × ℕ) Fault} {entry exit : List (List ℕ)}
    → GivesCount (costs_of sheet at line) answer entry exit → answer ≡ Ok (k, next) → k ≤ 4
costs_few sheet at line {k} {next} gives e =
    ⊎_elim (λ z. omega arith) (λ z. omega arith) (costs_count sheet at line k next (sym gives.said ∙ e))

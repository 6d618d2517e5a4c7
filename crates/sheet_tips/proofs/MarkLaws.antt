-- Laws of the marks: how many names have been met, and how that goes with the nodes made.
-- Assumes nothing.
use mathlib.Core.Bool.{false}
use mathlib.Core.List.{List, [], ◌∷◌}
use mathlib.Core.Path.{◌≡◌, refl, ap, ◌∙◌}
use Prim.Native.Nat.{ℕ, zero, suc, ◌+◌, ◌≤◌, ◌<◌}
use native.Mathlib.Omega.{arith}
use native.Mathlib.Nat.{not-suc-le-zero, le_of_suc-le-suc}
use borrow.Author.Tests.{eqb-false}
use lib.ListN.{length, get_or, set, length-set, replicate, length-replicate, get_or-replicate, get_or-eq_default}
use lib.Seq.{get_or-set_same, get_or-set_other}
use Rattle.parsimony.proofs.Order.{by_lt, by_eq}
use Rattle.sheet_tips.specs.Marks.{unmarked, is_marked, marked, met, IsMarks}

-- no name has been met at first
met_none : (n : ℕ) → met (replicate n 0) ≡ 0
unfolding met
met_none zero = refl
met_none (suc n) = let rest = met_none n in omega arith

pub unmarked_met : met (unmarked 512) ≡ 0
unfolding unmarked
unmarked_met = met_none 512

pub unmarked_row : (r : ℕ) → get_or (unmarked 512) r 0 ≡ 0
unfolding unmarked
unmarked_row r =
    let none : ℕ = 0 in
    let long : length (replicate 512 none) ≡ 512 = length-replicate 512 none in
    by_lt r 512 (λ h. get_or-replicate 512 r none none h)
    (λ h. let over : length (replicate 512 none) ≤ r = omega arith in
    get_or-eq_default (replicate 512 none) none over)

pub unmarked_marks : IsMarks (unmarked 512)
unfolding unmarked
unmarked_marks =
    let none : ℕ = 0 in
    record { long = length-replicate 512 none; small = λ r. let z = unmarked_row r in omega arith }

-- a store of 1 over 0 adds one
met_set : (marks : List ℕ) (r : ℕ) → r < length marks → get_or marks r 0 ≡ 0 → met (set marks r 1) ≡ met marks + 1
unfolding met
met_set [] r h e = absurd (not-suc-le-zero h)
met_set (m ∷ marks) zero h e = omega arith
met_set (m ∷ marks) (suc r) h e = let rest = met_set marks r (le_of_suc-le-suc h) e in omega arith

met_most : (marks : List ℕ) → ((r : ℕ) → get_or marks r 0 ≤ 1) → met marks ≤ length marks
unfolding met
met_most [] h = omega arith
met_most (m ∷ marks) h = let first = h 0 in let rest = met_most marks (λ r. h (suc r)) in omega arith

module _ (marks : List ℕ) (is : IsMarks marks) where
  -- of 512 names at most 512 have been met
  pub met_few : met marks ≤ 512
  met_few = let most = met_most marks is.small in let long = is.long in omega arith

  module _ (r : ℕ) (low : r < 512) (free : is_marked marks r ≡ false) where
    pub open_mark : get_or marks r 0 ≡ 0
    unfolding is_marked
    open_mark = let ne = eqb-false (get_or marks r 0) 1 free in let small = is.small r in
        by_eq (get_or marks r 0) 1 (λ e. absurd (ne e)) (λ n. omega arith)

    -- a mark adds one
    pub met_mark : met (marked marks r) ≡ met marks + 1
    unfolding marked
    met_mark = let long = is.long in met_set marks r (omega arith) open_mark

    pub marks_mark : IsMarks (marked marks r)
    unfolding marked
    marks_mark =
        let long = is.long in
        record {
          long = length-set marks r 1 ∙ is.long;
          small = λ q. by_eq q r
              (λ e. let one : get_or (set marks r 1) q 0 ≡ 1 =
              ap (λ k. get_or (set marks r 1) k 0) e ∙ get_or-set_same marks r 1 0 (omega arith) in omega arith)
              (λ ne. let same : get_or (set marks r 1) q 0 ≡ get_or marks q 0 = get_or-set_other marks r q 1 0 ne in
              let small = is.small q in omega arith);
        }

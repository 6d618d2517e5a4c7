-- What the quiet mark says: a column is not quiet exactly where two bases each occur at two or more tips as plain ones.
-- Assumes nothing.
use mathlib.Core.Bool.{Bool, true, false}
use mathlib.Core.List.{List}
use mathlib.Core.Logic.{◌↔◌}
use mathlib.Core.Path.{◌≡◌}
use Prim.Native.Nat.{ℕ, zero, suc, ◌≤◌, ◌<◌}
use native.Mathlib.Omega.{arith}
use borrow.Author.Tests.{lt-ltb, le-ltb}
use lib.Dec.{ltb}
use Rattle.parsimony.specs.StateSet.{one}
use Rattle.parsimony.specs.Sum.{sum}
use Rattle.parsimony.specs.Test.{pick}
use Rattle.parsimony.proofs.Order.{by_lt, pick_true, pick_false}
use Rattle.parsimony.proofs.Sums.{sum_zero, sum_suc, sum_some, sum_two}
use Rattle.report_marks.specs.Quiet.{tally, often, quiet_mark}
use Rattle.report_marks.proofs.QuietSteps.{often_no, often_yes}

-- two bases each occur at two or more tips as plain ones
abbrev pub TwoBases : List ℕ → Type 0
TwoBases cells = (x : ℕ) × (y : ℕ) × (x < y) × (y < 4) × (2 ≤ tally (one x) cells) × (2 ≤ tally (one y) cells)

-- a base that is marked occurs at two tips, and is marked once
often_means : (cells : List ℕ) (x : ℕ) → 1 ≤ often cells x → 2 ≤ tally (one x) cells
often_means cells x marked =
    by_lt (tally (one x) cells) 2 (λ few. absurd (let none = often_no cells x few in omega arith))
    (λ many. many)

often_most : (cells : List ℕ) (x : ℕ) → often cells x ≤ 1
often_most cells x =
    by_lt (tally (one x) cells) 2 (λ few. let none = often_no cells x few in omega arith)
    (λ many. let marked = often_yes cells x many in omega arith)

-- marks of at most 1 that come to two or more stand at two places
two_marks : (f : ℕ → ℕ) → ((i : ℕ) → f i ≤ 1) → (n : ℕ) → 2 ≤ sum f n
    → (x : ℕ) × (y : ℕ) × (x < y) × (y < n) × (1 ≤ f x) × (1 ≤ f y)
two_marks f most zero two = absurd (let none = sum_zero f in omega arith)
two_marks f most (suc n) two =
    let more = sum_suc f n in
    let top = most n in
    by_lt (f n) 1
    (λ none. let (x, y, below, in_range, fx, fy) = two_marks f most n (omega arith) in
    (x, y, below, omega arith, fx, fy))
    (λ marked. let (x, in_range, fx) = sum_some f n (omega arith) in (x, n, in_range, omega arith, fx, marked))

-- not quiet: two bases
pub quiet_means : (cells : List ℕ) → (quiet_mark cells ≡ 0) ↔ TwoBases cells
unfolding quiet_mark
quiet_means cells = (
  (λ loud. by_lt (sum (often cells) 4) 2
      (λ few. absurd (let mark = pick_true {A = ℕ} 1 0 (lt-ltb (sum (often cells) 4) 2 few) in omega arith))
      (λ many. let (x, y, below, in_range, fx, fy) = two_marks (often cells) (often_most cells) 4 many in
      (x, y, below, in_range, often_means cells x fx, often_means cells y fy))),
  (λ (x, y, below, in_range, tx, ty). let first = often_yes cells x tx in
      let second = often_yes cells y ty in
      let both = sum_two (often cells) 4 x y below in_range in
      pick_false {A = ℕ} 1 0 (le-ltb (sum (often cells) 4) 2 (omega arith))),
)

-- a mark has one digit
mark_small : (b : Bool) → pick b 1 0 < 10
unfolding pick
mark_small true = omega arith
mark_small false = omega arith

pub quiet_small : (cells : List ℕ) → quiet_mark cells < 10
unfolding quiet_mark
quiet_small cells = mark_small (ltb (sum (often cells) 4) 2)

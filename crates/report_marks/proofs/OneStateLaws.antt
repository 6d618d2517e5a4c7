-- The one-state count: what it depends on, its most, and that it counts the sets of a list.
-- Assumes nothing.
use Rattle.std.proofs.Common.{
  ◌≡◌,
  ℕ,
  zero,
  suc,
  ◌+◌,
  ◌^◌,
  ◌≤◌,
  ◌<◌,
  ◌==◌,
  cond,
  List,
  [],
  ◌∷◌,
  length,
  get_or,
  take,
  length-take-le,
  get_or-take,
  ap,
  sym,
  ◌∙◌,
  arith,
}
use Rattle.std.specs.List.{count_by}
use Rattle.std.proofs.lemmas.List.Recursion.{is_count_by}
use lib.Seq.{take_all}
use borrow.Author.Tests.{eq-eqb, ne_eqb}
use Rattle.parsimony.specs.StateSet.{size}
use Rattle.parsimony.specs.Sum.{sum}
use Rattle.parsimony.specs.Test.{at}
use Rattle.parsimony.proofs.Order.{by_eq, at_same, at_other}
use Rattle.parsimony.proofs.StateCountLaws.{size_ones}
use Rattle.parsimony.proofs.Sums.{sum_zero, sum_suc, sum_same}
use Rattle.report_marks.specs.OneState.{single, one_states}

-- a set of states below s has as many states by any larger width
size_wide : (s t w : ℕ) → w < 2 ^ s → w < 2 ^ t → size t w ≡ size s w
size_wide s t w narrow wide = size_ones t w wide ∙ sym (size_ones s w narrow)

-- sets of states below s that are the same by node have as many of one state, by any larger width
pub ones_same : (s t : ℕ) (S T : ℕ → ℕ) (n : ℕ)
    → ((v : ℕ) → v < n → (S v ≡ T v) × (T v < 2 ^ s) × (T v < 2 ^ t)) → one_states t S n ≡ one_states s T n
unfolding one_states single
ones_same s t S T n same =
    sum_same _ _ n
    (λ v h. let (is, narrow, wide) = same v h in ap (λ w. at 1 1 (size t w)) is
    ∙ ap (at 1 1) (size_wide s t (T v) narrow wide))

-- whether a set has one state
single_cond : (s w : ℕ) (rest : ℕ) → single s w + rest ≡ cond (size s w == 1) (1 + rest) rest
unfolding single
single_cond s w rest =
    by_eq (size s w) 1
    (λ e. let is = at_same 1 1 (size s w) (sym e) in
    let yes = ap (λ b. cond b (1 + rest) rest) (eq-eqb _ _ e) in
    omega arith)
    (λ ne. let is = at_other 1 1 (size s w) (λ e. ne (sym e)) in
    let no = ap (λ b. cond b (1 + rest) rest) (ne_eqb _ _ ne) in
    omega arith)

-- the sum of a function over the numbers below a bound, its first place by itself
sum_first : (f : ℕ → ℕ) (n : ℕ) → sum f (suc n) ≡ f 0 + sum (λ i. f (suc i)) n
unfolding sum
sum_first f zero = omega arith
sum_first f (suc n) = let rest = sum_first f n in omega arith

-- the sets in a list: as many as have one state
ones_count : (s : ℕ) (sets : List ℕ) → one_states s (λ v. get_or sets v 0) (length sets)
    ≡ count_by (λ w. size s w == 1) sets
unfolding one_states
ones_count s =
    is_count_by (λ sets. one_states s (λ v. get_or sets v 0) (length sets)) (λ w. size s w == 1)
    (sum_zero (λ v. single s (get_or [] v 0)))
    (λ w sets. sum_first (λ v. single s (get_or (w ∷ sets) v 0)) (length sets)
    ∙ single_cond s w (one_states s (λ v. get_or sets v 0) (length sets)))

-- all sets are counted
pub ones_all : (s : ℕ) (sets : List ℕ) {count i : ℕ} → length sets ≤ i
    → count ≡ count_by (λ set. size s set == 1) (take i sets)
    → count ≡ one_states s (λ v. get_or sets v 0) (length sets)
ones_all s sets {i} over is =
    is ∙ ap (count_by (λ set. size s set == 1)) (take_all i sets over) ∙ sym (ones_count s sets)

-- at most all of them have one state
pub ones_most : (s : ℕ) (S : ℕ → ℕ) (n : ℕ) → one_states s S n ≤ n
unfolding one_states single
ones_most s S zero = let none = sum_zero (λ v. single s (S v)) in omega arith
ones_most s S (suc n) =
    let low = ones_most s S n in
    let more = sum_suc (λ v. single s (S v)) n in
    let top : single s (S n) ≤ 1 = by_eq 1 (size s (S n)) (λ e. let is = at_same 1 1 _ e in omega arith)
    (λ ne. let is = at_other 1 1 _ ne in omega arith) in
    omega arith

-- the first n sets of a list: as many of one state
pub ones_taken : (s : ℕ) (sets : List ℕ) (n : ℕ) → n ≤ length sets
    → one_states s (λ v. get_or (take n sets) v 0) (length (take n sets)) ≡ one_states s (λ v. get_or sets v 0) n
unfolding one_states
ones_taken s sets n inside =
    ap (sum (λ v. single s (get_or (take n sets) v 0))) (length-take-le n sets inside)
    ∙ sum_same _ _ n (λ v h. ap (single s) (get_or-take n sets v 0 h))

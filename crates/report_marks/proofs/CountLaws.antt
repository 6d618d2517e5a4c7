-- Counting the sets of one state by place: none at the start, one set more, never more than places, all at the end.
-- Assumes nothing.
use Rattle.std.proofs.Common.{◌≡◌, ℕ, suc, ◌+◌, ◌≤◌, ◌<◌, ap, ◌∙◌, arith}
use Rattle.parsimony.specs.Sum.{sum}
use Rattle.parsimony.proofs.Sums.{sum_suc}
use Rattle.report_marks.specs.OneState.{single, one_states}
use Rattle.report_marks.proofs.OneStateLaws.{ones_most}

-- of the first v of n sets so many have one of s states
pub record CountedTo (s : ℕ) (S : ℕ → ℕ) (n count v : ℕ) : Type 0 where
  pub few : v ≤ n
  pub is : count ≡ one_states s S v

-- none at the start
pub counted_none : (s : ℕ) (S : ℕ → ℕ) (n : ℕ) → CountedTo s S n 0 0
counted_none s S n = record { few = omega arith; is = let most = ones_most s S 0 in omega arith }

-- one set more
pub counted_more : (s : ℕ) (S : ℕ → ℕ) (n count v here : ℕ) → v < n → here ≡ single s (S v) → CountedTo s S n count v
    → CountedTo s S n (count + here) (v + 1)
unfolding one_states
counted_more s S n count v here inside one so_far =
    let next : v + 1 ≡ suc v = omega arith in
    let more = ap (sum (λ u. single s (S u))) next ∙ sum_suc (λ u. single s (S u)) v in
    record { few = omega arith; is = omega (arith, so_far.is) }

-- no more than there are sets
pub counted_most : {s n count v : ℕ} {S : ℕ → ℕ} → CountedTo s S n count v → count ≤ v
counted_most {s} {n} {count} {v} {S} so_far = let most = ones_most s S v in omega (arith, so_far.is)

-- all sets
pub counted_all : {s n count v : ℕ} {S : ℕ → ℕ} → n ≤ v → CountedTo s S n count v → count ≡ one_states s S n
counted_all {s} {n} {count} {v} {S} over so_far =
    let same : v ≡ n = omega (arith, so_far.few) in so_far.is ∙ ap (one_states s S) same

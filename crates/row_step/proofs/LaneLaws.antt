-- Laws of lanes: how large their sums are.
-- Assumes nothing.
use Rattle.std.proofs.Common.{List, ◌≡◌, ℕ, ◌<◌, ◌≤◌, length, get_or, subst, sym, ap, ap₂, arith}
use Rattle.parsimony.specs.Barred.{barred, plus}
use Rattle.parsimony.specs.Least.{least}
use Rattle.parsimony.specs.Written.{entries}
use Rattle.parsimony.proofs.BarredLaws.{plus_right, plus_le}
use Rattle.parsimony.proofs.LeastLaws.{least_low, low_within, least_same}
use Rattle.parsimony.proofs.Order.{by_eq}
use Rattle.row_step.specs.Lane.{Within, lane, Calm, Cheap, RowIs}

module _ {costs row : List ℕ} (cheap : Cheap costs (length row)) (calm : Calm row) where
  -- a sum in a lane is barred or little above 2^30
  pub lane_within : (y : ℕ) → y < length row → Within 1073742822 (lane (entries costs) (entries row) y)
  lane_within y h free =
      let little = cheap.cheap y h in
      let low = calm.calm y h (λ bar. free (plus_right (get_or costs y 0) (get_or row y 0) bar)) in
      let sum = plus_le (get_or costs y 0) (get_or row y 0) in
      omega arith

  -- and so is the least of a lane
  pub least_within : 0 < length row
      → Within 1073742822 (least (lane (entries costs) (entries row)) (length row))
  least_within some =
      let f : ℕ → ℕ = lane (entries costs) (entries row) in
      subst (Within 1073742822) (sym (least_low f (length row))) (lane_within _ (low_within f (length row) some))

-- a number within a bound below barred is at most barred
pub within_most : (k n : ℕ) → k ≤ barred → Within k n → n ≤ barred
within_most k n few within = by_eq n barred (λ e. omega arith) (λ free. let low = within free in omega arith)

-- costs that are those of a table, row by row, give the lanes of the table
module _ (cost : ℕ → ℕ) (costs : List ℕ) (s : ℕ) (count : length costs ≡ s) (row : RowIs cost costs) where
  pub lane_row : (entry : ℕ → ℕ) (y : ℕ) → y < s → lane (entries costs) entry y ≡ lane cost entry y
  lane_row entry y h = ap (λ k. plus k (entry y)) (row y (omega arith))

  pub least_row : 0 < s → (entry : ℕ → ℕ) → least (lane (entries costs) entry) s ≡ least (lane cost entry) s
  least_row some entry = least_same _ _ s some (lane_row entry)

  pub join_row : 0 < s → (a b : ℕ → ℕ) (n : ℕ) → n ≡ s
      → plus (least (lane (entries costs) a) n) (least (lane (entries costs) b) n)
      ≡ plus (least (lane cost a) s) (least (lane cost b) s)
  join_row some a b n e =
      subst (λ k. plus (least (lane (entries costs) a) k) (least (lane (entries costs) b) k)
      ≡ plus (least (lane cost a) s) (least (lane cost b) s)) (sym e)
      (ap₂ plus (least_row some a) (least_row some b))

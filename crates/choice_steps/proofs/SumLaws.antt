-- The sums of a child's states, as a slice of those that were worked: they are the lane of the table's costs.
-- Assumes nothing.
use Rattle.std.proofs.Common.{List, ◌≡◌, ℕ, ◌<◌, ◌≤◌, length, get_or, take, ◌∙◌, ap, arith, get_or-take, length-take-le}
use Rattle.parsimony.specs.Written.{entries, Each}
use Rattle.row_step.specs.Lane.{lane, RowIs}
use Rattle.row_step.proofs.LaneLaws.{lane_row}
use Rattle.choice_steps.specs.Ties.{least_set}
use Rattle.choice_steps.proofs.SetSteps.{least_set_same}

module _ (cost : ℕ → ℕ) (costs row sums : List ℕ) (s : ℕ) (count : length costs ≡ s) (is : RowIs cost costs)
    (states : length row ≡ s) (each : Each (length row) (λ y e. e ≡ lane (entries costs) (entries row) y) (entries sums))
  where
    sum_is : (y : ℕ) → y < s → get_or (take (length row) sums) y 0 ≡ lane cost (entries row) y
    sum_is y h =
        get_or-take (length row) sums y 0 (omega arith) ∙ each y (omega arith)
        ∙ lane_row cost costs s count is (entries row) y h

    module _ (long : length row ≤ length sums) where
      size : length (take (length row) sums) ≡ s
      size = length-take-le (length row) sums long ∙ states

      -- the states at which the sums are least are those that reach the least
      pub reached_is : 0 < s → least_set (entries (take (length row) sums)) (length (take (length row) sums))
          ≡ least_set (lane cost (entries row)) s
      reached_is some = ap (least_set (entries (take (length row) sums))) size ∙ least_set_same _ _ s some sum_is

-- What counting by sets writes and answers.
-- Assumes nothing.
use Rattle.std.specs.Prelude.{List, ◌≡◌, ℕ, ◌-◌, length}
use Rattle.parsimony.specs.Counting.{counted_at}
use Rattle.parsimony.specs.Written.{Written, Below, Each}

-- the preliminary sets of all nodes in column j were written, and nothing else; changes is the column's change count
pub record Prelims (left right : List ℕ) (c : ℕ) (cells : List ℕ) (j : ℕ) (before after : List ℕ) (changes : ℕ)
    : Type 0 where
  pub sets : Written (Below (length left)) (Each (length left) (λ v w. w ≡ (counted_at left right c cells j v).set))
      before
      after
  pub count : changes ≡ (counted_at left right c cells j (length left - 1)).changes

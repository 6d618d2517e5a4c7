-- The marks of the names that have been met: an entry for each row, 1 where its name has been met and 0 where not.
-- Assumes nothing.
use Rattle.std.specs.Prelude.{Bool, List, [], ◌∷◌, ◌≡◌, ℕ, ◌+◌, ◌≤◌, eqb, get_or, set, length, replicate}

-- no name has been met: n entries of 0
unfoldable pub unmarked : ℕ → List ℕ
unmarked n = replicate n 0

-- the test that the name of row r has been met
unfoldable pub is_marked : List ℕ → ℕ → Bool
is_marked marks r = eqb (get_or marks r 0) 1

-- the marks when the name of row r has been met too
unfoldable pub marked : List ℕ → ℕ → List ℕ
marked marks r = set marks r 1

-- how many names have been met
unfoldable pub met : List ℕ → ℕ
met [] = 0
met (m ∷ marks) = m + met marks

-- marks of 512 rows
pub record IsMarks (marks : List ℕ) : Type 0 where
  pub long : length marks ≡ 512
  pub small : (r : ℕ) → get_or marks r 0 ≤ 1

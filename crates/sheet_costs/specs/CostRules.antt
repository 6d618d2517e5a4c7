-- The rules of a cost table of four states, row the parent's state, column the child's.
-- Assumes nothing.
use Rattle.std.specs.Prelude.{List, [], ◌≡◌, ℕ, ◌+◌, ◌*◌, ◌<◌, ◌≤◌, length, get_or}

-- the row of the parent's state x: four costs, each at most 999, and nothing for no change
pub record RowRules (x : ℕ) (row : List ℕ) : Type 0 where
  pub size : length row ≡ 4
  pub cheap : (y : ℕ) → get_or row y 0 ≤ 999
  pub stay : get_or row x 0 ≡ 0

-- the table: four such rows
pub record TableRules (table : List (List ℕ)) : Type 0 where
  pub size : length table ≡ 4
  pub rows : (x : ℕ) → x < 4 → RowRules x (get_or table x [])

-- the costs of a table in one list, row after row: the change from x to y stands at x * 4 + y
pub record Flat (table : List (List ℕ)) (flat : List ℕ) : Type 0 where
  pub size : length flat ≡ 16
  pub entry : (x y : ℕ) → x < 4 → y < 4 → get_or flat (x * 4 + y) 0 ≡ get_or (get_or table x []) y 0

-- The cost tables, cells and handed rows that a table may come with.
-- Assumes nothing.
use Rattle.std.specs.Prelude.{List, ◌⊎◌, ◌≡◌, ℕ, ◌+◌, ◌*◌, ◌^◌, ◌<◌, ◌≤◌, length, get_or}
use Rattle.parsimony.specs.Barred.{barred}
use Rattle.parsimony.specs.Limits.{most_states}

-- s is 2 to 16, the most states; the costs are s by s numbers, 0 to 999, and 0 on the diagonal
pub record CostRules (s : ℕ) (costs : List ℕ) : Type 0 where
  pub fewest : 2 ≤ s
  pub most : s ≤ most_states
  pub count : length costs ≡ s * s
  pub cheap : (i : ℕ) → i < s * s → get_or costs i 0 ≤ 999
  pub stay : (x : ℕ) → x < s → get_or costs (x * s + x) 0 ≡ 0

-- at most 65,535 columns; a cell for each of t rows and c columns, none empty, none with a bit at s or above
pub record CellRules (s t c : ℕ) (cells : List ℕ) : Type 0 where
  pub columns : c ≤ 65535
  pub count : length cells ≡ t * c
  pub filled : (i : ℕ) → i < t * c → 1 ≤ get_or cells i 0
  pub bits : (i : ℕ) → i < t * c → get_or cells i 0 < 2 ^ s

-- the largest handed entry that is not barred: 1,022 edges at 999
abbrev pub most_handed : ℕ
most_handed = 1020978

-- an entry for each of c columns, h rows and s states, each 0 to 1,020,978 or barred; no row is wholly barred
pub record HandedRules (s c h : ℕ) (entries : List ℕ) : Type 0 where
  pub count : length entries ≡ c * h * s
  pub range : (i : ℕ) → i < c * h * s → (get_or entries i 0 ≤ most_handed) ⊎ (get_or entries i 0 ≡ barred)
  pub unbarred : (i : ℕ) → i < c * h → (x : ℕ) × (x < s) × (get_or entries (i * s + x) 0 ≡ barred → ⊥)

-- Cells and handed entries filled by a rule, laid out as the paper lays them out.
-- Assumes nothing.
use Rattle.std.specs.Prelude.{List, ℕ}
use Rattle.parsimony.specs.Filled.{list_of, joined}

-- the cells of t rows and c columns: that of row r and column j stands at r * c + j
unfoldable pub cells_by : ℕ → ℕ → (ℕ → ℕ → ℕ) → List ℕ
unfolding joined list_of
cells_by t c cell = joined t (λ r. list_of c (cell r))

-- the handed entries of c columns, h rows and s states: that of column j, row k and state x stands at
-- (j * h + k) * s + x
unfoldable pub entries_by : ℕ → ℕ → ℕ → (ℕ → ℕ → ℕ → ℕ) → List ℕ
unfolding joined list_of
entries_by c h s entry = joined c (λ j. joined h (λ k. list_of s (entry j k)))

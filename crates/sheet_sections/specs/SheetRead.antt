-- What a sheet that is read up to its tree line has, in words.
-- Assumes nothing.
use Rattle.std.specs.Prelude.{List, ◌≡◌, ℕ, ◌+◌, ◌<◌, ◌≤◌, length}
use Rattle.sheet_cells.specs.IsRow.{IsRow, row_at}
use Rattle.sheet_costs.specs.CostRules.{TableRules}
use Rattle.sheet_names.specs.IsName.{AllNames}
use Rattle.sheet_sections.specs.declared.Sections.{Sections}

-- After t names: at most 65,535 columns, each row a line of as many symbols, a cost table that keeps the rules, and
-- the place of the tree line within the sheet or at its end, and the number of that line.
pub record RestRead (sheet : List ℕ) (t : ℕ) (costs : List (List ℕ)) (s : Sections) : Type 0 where
  pub tips : s.tips ≡ t
  pub columns : s.columns ≤ 65535
  pub rows : (r : ℕ) → r < s.tips → IsRow sheet s.columns (row_at s.cells s.columns r)
  pub priced : TableRules costs
  pub tree : s.tree ≤ length sheet
  pub line : s.line ≤ t + t + 9

-- 1 to 512 names at their places, all well formed and all different, and the rest
pub record SheetRead (sheet names : List ℕ) (costs : List (List ℕ)) (s : Sections) : Type 0 where
  pub enough : 1 ≤ s.tips
  pub few : s.tips ≤ 512
  pub size : length names ≡ s.tips
  pub named : AllNames sheet names
  pub rest : RestRead sheet s.tips costs s

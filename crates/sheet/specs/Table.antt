-- The table of one column of a sheet, as the scorer takes it.
-- Assumes nothing.
use Rattle.std.specs.Prelude.{List, [], ◌∷◌, ◌++◌, ℕ, ◌+◌, get_or}
use Rattle.parsimony.specs.Filled.{list_of}
use Rattle.promises.specs.Input.{Input, input}
use Rattle.sheet_cells.specs.IsRow.{row_at}
use Rattle.sheet_tips.specs.Nodes.{lefts, rights}
use Rattle.sheet_symbols.specs.Code.{symbol_set}
use Rattle.sheet.specs.Judge.{Contents}

-- the rows of a table in one list, one after the other
unfoldable pub flat : List (List ℕ) → List ℕ
flat [] = []
flat (row ∷ rows) = row ++ flat rows

-- the cell of row r and column j: the set of states of its symbol
unfoldable pub cell_of : List ℕ → Contents → ℕ → ℕ → ℕ
unfolding symbol_set
cell_of sheet has j r = symbol_set (get_or sheet (row_at has.cells has.columns r + j) 0)

-- the cells of column j, row by row
unfoldable pub cells_of : List ℕ → Contents → ℕ → List ℕ
unfolding list_of cell_of
cells_of sheet has j = list_of has.tips (cell_of sheet has j)

-- column j of the sheet alone: its tree, four states, its costs, one column of cells, and no handed rows
abbrev pub table_of : List ℕ → Contents → ℕ → Input
table_of sheet has j =
    input (lefts has.vine 0) (rights has.vine 0) 4 (flat has.costs) 1 (cells_of sheet has j) []

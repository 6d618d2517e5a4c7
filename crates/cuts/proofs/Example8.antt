-- The paper's example 8: the tables of the proved examples are the part and the rest of the report's cut at node 2.
-- Assumes nothing.
use mathlib.Core.List.{[], ◌∷◌}
use mathlib.Core.Path.{◌≡◌, refl}
use Prim.Native.Nat.{ℕ}
use lib.ListN.{get_or}
use Rattle.parsimony.specs.Column.{column_of}
use Rattle.parsimony.specs.Examples.{Example, example2b, example8part, example8rest}
use Rattle.parsimony.specs.Filled.{list_of}
use Rattle.parsimony.specs.Table.{tips}
use Rattle.promises.specs.Input.{Input, input}
use Rattle.cuts.specs.Cut.{part, rest, span, branch, later_cell, later_entry}
use Rattle.cuts.specs.Filled.{cells_by, entries_by}
use Rattle.cuts.specs.Piece.{node_new, kept_cell, kept_entry}

-- the table of an example
abbrev table_of : Example → Input
table_of e = input e.left e.right e.s e.costs e.c e.cells e.entries

-- the report, column 1
abbrev column1 : Input
column1 = span (table_of example2b) 1 1

-- the row 2, 1, 2, 1 that goes up
abbrev goes_up : ℕ → ℕ → ℕ
goes_up j x = get_or (2 ∷ 1 ∷ 2 ∷ 1 ∷ []) x 0

pub example8_part : part column1 2 ≡ table_of example8part
unfolding list_of cells_by entries_by node_new kept_cell kept_entry branch later_cell later_entry tips
example8_part = refl

pub example8_rest : rest column1 2 goes_up ≡ table_of example8rest
unfolding list_of cells_by entries_by node_new kept_cell kept_entry branch column_of later_cell later_entry tips
example8_rest = refl

-- The definitions on the paper's example 8, and on a table whose rows do not stand in the order of its nodes.
-- Assumes nothing.
use mathlib.Core.List.{List, [], ◌∷◌}
use mathlib.Core.Path.{◌≡◌, refl}
use Prim.Native.Nat.{ℕ, ◌+◌, ◌*◌}
use native.Mathlib.Omega.{arith}
use lib.ListN.{get_or}
use Rattle.parsimony.specs.Column.{column_of}
use Rattle.parsimony.specs.Filled.{list_of}
use Rattle.parsimony.specs.Table.{tips}
use Rattle.promises.specs.Input.{Input, input}
use Rattle.cuts.specs.Cut.{part, rest, span, branch, later_cell, later_entry}
use Rattle.cuts.specs.Filled.{cells_by, entries_by}
use Rattle.cuts.specs.Nodes.{cuts_at, nodes_cut}
use Rattle.cuts.specs.Piece.{piece_node, node_new, kept_cell, kept_entry}
use Rattle.cuts.specs.Plan.{whole, cut_at, columns_at, Suits}

abbrev none : ℕ
none = 65535

abbrev unit : List ℕ
unit = 0 ∷ 1 ∷ 1 ∷ 1 ∷ 1 ∷ 0 ∷ 1 ∷ 1 ∷ 1 ∷ 1 ∷ 0 ∷ 1 ∷ 1 ∷ 1 ∷ 1 ∷ 0 ∷ []

-- the sheet of the paper's report
abbrev report : Input
report =
    input (none ∷ none ∷ 0 ∷ none ∷ 2 ∷ []) (0 ∷ 1 ∷ 1 ∷ 2 ∷ 3 ∷ []) 4 unit 2 (1 ∷ 2 ∷ 1 ∷ 8 ∷ 4 ∷ 8 ∷ []) []

-- rows of four entries, column by column
abbrev sends : List ℕ → ℕ → ℕ → ℕ
sends entries j x = get_or entries (4 * j + x) 0

-- cut at node 2, the part has the tips a and b
case_part : part report 2 ≡ input (none ∷ none ∷ 0 ∷ []) (0 ∷ 1 ∷ 1 ∷ []) 4 unit 2 (1 ∷ 2 ∷ 1 ∷ 8 ∷ []) []
unfolding list_of cells_by entries_by node_new kept_cell kept_entry branch
case_part = refl

-- and the rest a handed tip and c; in column 1 the row 2, 1, 2, 1 has gone up
case_rest : rest report 2 (sends (0 ∷ 2 ∷ 2 ∷ 2 ∷ 2 ∷ 1 ∷ 2 ∷ 1 ∷ []))
    ≡ input (none ∷ none ∷ 0 ∷ []) (32768 ∷ 0 ∷ 1 ∷ []) 4 unit 2 (4 ∷ 8 ∷ []) (0 ∷ 2 ∷ 2 ∷ 2 ∷ 2 ∷ 1 ∷ 2 ∷ 1 ∷ [])
unfolding list_of cells_by entries_by node_new kept_cell kept_entry branch column_of
case_rest = refl

-- column 1 alone, of the whole
case_span : span report 1 1
    ≡ input (none ∷ none ∷ 0 ∷ none ∷ 2 ∷ []) (0 ∷ 1 ∷ 1 ∷ 2 ∷ 3 ∷ []) 4 unit 1 (2 ∷ 8 ∷ 8 ∷ []) []
unfolding cells_by entries_by later_cell later_entry tips
case_span = refl

-- and of the rest
case_span_rest : span (rest report 2 (sends (0 ∷ 2 ∷ 2 ∷ 2 ∷ 2 ∷ 1 ∷ 2 ∷ 1 ∷ []))) 1 1
    ≡ input (none ∷ none ∷ 0 ∷ []) (32768 ∷ 0 ∷ 1 ∷ []) 4 unit 1 (8 ∷ []) (2 ∷ 1 ∷ 2 ∷ 1 ∷ [])
unfolding list_of cells_by entries_by node_new kept_cell kept_entry branch column_of later_cell later_entry tips
case_span_rest = refl

-- two cherries: nodes 0 and 1 under 2 have the rows 2 and 0, nodes 3 and 4 under 5 the rows 3 and 1
abbrev crossed : Input
crossed =
    input (none ∷ none ∷ 0 ∷ none ∷ none ∷ 3 ∷ 2 ∷ []) (2 ∷ 0 ∷ 1 ∷ 3 ∷ 1 ∷ 4 ∷ 5 ∷ []) 4 unit 1 (1 ∷ 2 ∷ 4 ∷ 8 ∷ []) []

-- matrix rows keep their relative order, not that of the nodes
case_rows : part crossed 2 ≡ input (none ∷ none ∷ 0 ∷ []) (1 ∷ 0 ∷ 1 ∷ []) 4 unit 1 (1 ∷ 4 ∷ []) []
unfolding list_of cells_by entries_by node_new kept_cell kept_entry branch
case_rows = refl

-- the rest of the cut at 5
abbrev once : Input
once = rest crossed 5 (sends (9 ∷ 8 ∷ 7 ∷ 6 ∷ []))

case_once : once
    ≡ input (none ∷ none ∷ 0 ∷ none ∷ 2 ∷ []) (1 ∷ 0 ∷ 1 ∷ 32768 ∷ 3 ∷ []) 4 unit 1 (1 ∷ 4 ∷ []) (9 ∷ 8 ∷ 7 ∷ 6 ∷ [])
unfolding list_of cells_by entries_by node_new kept_cell kept_entry branch column_of
case_once = refl

-- cut again at 2: handed rows are numbered in node order, old and new together
case_twice : rest once 2 (sends (1 ∷ 2 ∷ 3 ∷ 4 ∷ []))
    ≡ input (none ∷ none ∷ 0 ∷ []) (32768 ∷ 32769 ∷ 1 ∷ []) 4 unit 1 [] (1 ∷ 2 ∷ 3 ∷ 4 ∷ 9 ∷ 8 ∷ 7 ∷ 6 ∷ [])
unfolding list_of cells_by entries_by node_new kept_cell kept_entry branch column_of
case_twice = refl

-- a plan that suits the report: its first column is cut at node 2, the other is worked whole
case_suits : Suits (columns_at 1 (cut_at 2 whole whole) whole) report
unfolding list_of cells_by entries_by node_new kept_cell kept_entry branch column_of later_cell later_entry tips
case_suits = (omega arith, ((record { inside = omega arith; kids = (0, 1, refl) }, (tt, λ sent low. tt)), tt))

-- and one that suits the two cherries: both are cut off, one after the other
case_suits_twice : Suits (cut_at 5 whole (cut_at 2 whole whole)) crossed
unfolding list_of cells_by entries_by node_new kept_cell kept_entry branch column_of
case_suits_twice = (
  record { inside = omega arith; kids = (3, 4, refl) },
  (tt, λ sent low. (record { inside = omega arith; kids = (0, 1, refl) }, (tt, λ more under. tt))),
)

-- cut at both cherries: the lower is cut first, and the higher is node 3 of the rest
case_cherries : cuts_at crossed (2 ∷ 5 ∷ []) ≡ cut_at 2 whole (cut_at 3 whole whole)
unfolding list_of node_new branch
case_cherries = refl

-- a comb: nodes 0 and 1 under 2, 2 and 3 under 4, 4 and 5 under 6, and 6 and 7 under 8
abbrev comb : Input
comb =
    input (none ∷ none ∷ 0 ∷ none ∷ 2 ∷ none ∷ 4 ∷ none ∷ 6 ∷ []) (0 ∷ 1 ∷ 1 ∷ 2 ∷ 3 ∷ 3 ∷ 5 ∷ 4 ∷ 7 ∷ []) 4 unit 1
    (1 ∷ 2 ∷ 4 ∷ 8 ∷ 1 ∷ []) []

-- cut at all its inner nodes but the root, one below the other: each is node 2 of what the cuts before it leave
case_comb : cuts_at comb (2 ∷ 4 ∷ 6 ∷ []) ≡ cut_at 2 whole (cut_at 2 whole (cut_at 2 whole whole))
unfolding list_of node_new branch
case_comb = refl

-- cut at the first and the last of them: the last is then node 4
case_comb_twice : cuts_at comb (2 ∷ 6 ∷ []) ≡ cut_at 2 whole (cut_at 4 whole whole)
unfolding list_of node_new branch
case_comb_twice = refl

-- and the node that is cut as number 4 there is node 6 of the comb
case_comb_back : nodes_cut (cut_at 2 whole (cut_at 4 whole whole)) comb (λ u. u) ≡ 2 ∷ 6 ∷ []
unfolding list_of node_new piece_node branch
case_comb_back = refl

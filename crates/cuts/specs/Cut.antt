-- A cut at an inner node v that is not the root gives a part (v and all below) and a rest (v become a handed tip).
-- Columns are cut into ranges.
-- Assumes nothing.
use Rattle.std.specs.Prelude.{◌≡◌, ℕ, suc, ◌+◌, ◌-◌, ◌<◌, eqb}
use Rattle.parsimony.specs.Column.{cell_at, handed_at}
use Rattle.parsimony.specs.Table.{symbol, handed, leaf, inner, kids_at, node_at, tips}
use Rattle.parsimony.specs.Test.{at, pick}
use Rattle.parsimony.specs.Tree.{descend}
use Rattle.promises.specs.Input.{Input, input, nodes, node_in, tips_in, column}
use Rattle.cuts.specs.Filled.{cells_by, entries_by}
use Rattle.cuts.specs.Piece.{Choice, piece_node, piece}

-- the nodes that may be cut: v is inner and is not the root
pub record CutAt (I : Input) (v : ℕ) : Type 0 where
  pub inside : suc v < nodes I
  pub kids : (a : ℕ) × (b : ℕ) × (node_in I v ≡ inner a b)

-- the mark that goes down from v: v has it, and a child has what its parent has
unfoldable pub pass_mark : ℕ → ℕ → ℕ → ℕ
unfolding pick
pass_mark v u mark = pick (eqb u v) 1 mark

-- 1 where node u is v or stands below it, else 0
unfoldable pub branch : Input → ℕ → ℕ → ℕ
unfolding descend pass_mark at node_at
branch I v u = descend (nodes I - 1) (kids_at I.left I.right) (pass_mark v) (at v 1 (nodes I - 1)) u

-- the part: v and all below, with what the table has there
abbrev pub in_part : Input → ℕ → Choice
in_part I v = record { keep = branch I v; node = node_in I; entry = λ j u x. (column I j).entry u x }

-- the rest: v, become a handed tip with the rows sent up for it (the column first, then the state),
-- and all that is not below v
abbrev pub in_rest : Input → ℕ → (ℕ → ℕ → ℕ) → Choice
in_rest I v up =
    record {
      keep = λ u. pick (eqb u v) 1 (1 - branch I v u);
      node = λ u. pick (eqb u v) (leaf handed 0) (node_in I u);
      entry = λ j u x. pick (eqb u v) (up j x) ((column I j).entry u x);
    }

-- the part of a table cut at v
abbrev pub part : Input → ℕ → Input
part I v = piece I (in_part I v)

-- the rest of a table cut at v, given the rows sent up
abbrev pub rest : Input → ℕ → (ℕ → ℕ → ℕ) → Input
rest I v up = piece I (in_rest I v up)

-- node i of the part, and node i of the rest, in the numbers of the table that was cut
abbrev pub part_node : Input → ℕ → ℕ → ℕ
part_node I v i = piece_node I (in_part I v) i

abbrev pub rest_node : Input → ℕ → (ℕ → ℕ → ℕ) → ℕ → ℕ
rest_node I v up i = piece_node I (in_rest I v up) i

-- the cells and handed entries of the columns from the first on
unfoldable pub later_cell : Input → ℕ → ℕ → ℕ → ℕ
unfolding cell_at
later_cell I first r j = cell_at I.c I.cells (first + j) r

unfoldable pub later_entry : Input → ℕ → ℕ → ℕ → ℕ → ℕ
unfolding handed_at tips node_at
later_entry I first j k x = handed_at I.s (tips_in handed I) I.handed (first + j) k x

-- a range of columns: so many from the first on
abbrev pub span : Input → ℕ → ℕ → Input
span I first count =
    input I.left I.right I.s I.costs count (cells_by (tips_in symbol I) count (later_cell I first))
    (entries_by count (tips_in handed I) I.s (later_entry I first))

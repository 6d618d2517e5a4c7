-- One column of a table: the tree, the costs and the tips' rows.
-- Assumes nothing.
use Rattle.std.specs.Prelude.{List, ℕ, ◌+◌, ◌*◌, ◌-◌, length, get_or}
use Rattle.parsimony.specs.Barred.{barred}
use Rattle.parsimony.specs.StateSet.{holds}
use Rattle.parsimony.specs.Table.{symbol, handed, Node, leaf, inner, kids_at, node_at, tips}
use Rattle.parsimony.specs.Test.{pick}
use Rattle.parsimony.specs.Tree.{Kids}

-- what a column is scored by
pub record Column : Type 0 where
  -- the root's number; the nodes are 0 to last
  pub last : ℕ
  -- each node's children
  pub kids : ℕ → Kids
  -- the number of states
  pub states : ℕ
  -- the cost of a change: the parent's state first, then the child's
  pub cost : ℕ → ℕ → ℕ
  -- a tip's row: the node first, then the state
  pub entry : ℕ → ℕ → ℕ

-- the cost of parent's state x and child's state y: row x and column y of an s by s table
unfoldable pub cost_at : ℕ → List ℕ → ℕ → ℕ → ℕ
cost_at s costs x y = get_or costs (x * s + y) 0

-- the cell of matrix row r in column j of c
unfoldable pub cell_at : ℕ → List ℕ → ℕ → ℕ → ℕ
cell_at c cells j r = get_or cells (r * c + j) 0

-- the handed entry of column j, row k of h, state x of s
unfoldable pub handed_at : ℕ → ℕ → List ℕ → ℕ → ℕ → ℕ → ℕ
handed_at s h entries j k x = get_or entries ((j * h + k) * s + x) 0

-- the row of a symbol tip: 0 in its cell's states and barred elsewhere
unfoldable pub cell_entry : ℕ → ℕ → ℕ
unfolding pick holds
cell_entry cell x = pick (holds cell x) 0 barred

-- the row of a tip, given each matrix row's cell and each handed row: a symbol tip's by its cell, a handed tip's handed
-- row. An inner node has none; 0 stands there and is never read.
abbrev pub tip_entry : (ℕ → ℕ) → (ℕ → ℕ → ℕ) → Node → ℕ → ℕ
tip_entry cell row (leaf symbol r) x = cell_entry (cell r) x
tip_entry cell row (leaf handed k) x = row k x
tip_entry cell row (inner a b) x = 0

-- column j of a table with s states, costs, c columns of cells and handed entries
unfoldable pub column_of : List ℕ → List ℕ → ℕ → List ℕ → ℕ → List ℕ → List ℕ → ℕ → Column
unfolding cost_at cell_at handed_at cell_entry node_at tips
column_of left right s costs c cells entries j =
    let h = tips handed (node_at left right) (length left) in
    record {
      last = length left - 1;
      kids = kids_at left right;
      states = s;
      cost = cost_at s costs;
      entry = λ v. tip_entry (cell_at c cells j) (handed_at s h entries j) (node_at left right v);
    }

-- A piece of a table: some of its nodes, numbered anew.
-- Assumes nothing.
use Rattle.std.specs.Prelude.{ℕ, ◌+◌, ◌*◌}
use Rattle.parsimony.specs.Column.{cell_at}
use Rattle.parsimony.specs.Filled.{list_of}
use Rattle.parsimony.specs.Sum.{sum}
use Rattle.parsimony.specs.Table.{symbol, handed, Node, leaf, inner, is_tip, names, tips, node_at}
use Rattle.promises.specs.Input.{Input, input, nodes, tips_in}
use Rattle.cuts.specs.Filled.{cells_by, entries_by}
use Rattle.cuts.specs.Numbering.{renumber, original}

-- What is kept of a table.
pub record Choice : Type 0 where
  -- which nodes: 1 where a node is kept, else 0
  pub keep : ℕ → ℕ
  -- what stands at each node, in the numbers of the table
  pub node : ℕ → Node
  -- the row of each handed tip: the column first, then the node and the state
  pub entry : ℕ → ℕ → ℕ → ℕ

-- 1 where matrix row r is that of a kept tip, else 0
unfoldable pub kept_row : Input → Choice → ℕ → ℕ
unfolding sum
kept_row I K r = sum (λ u. K.keep u * names symbol r (K.node u)) (nodes I)

-- 1 where node u is a kept handed tip, else 0
unfoldable pub kept_handed : Choice → ℕ → ℕ
kept_handed K u = K.keep u * is_tip handed (K.node u)

-- A node u of the table as it stands in the piece: nodes and matrix rows keep their relative order and are renumbered;
-- handed rows are numbered in node order.
abbrev pub renumbered : Input → Choice → ℕ → Node → Node
renumbered I K u (leaf symbol r) = leaf symbol (renumber (kept_row I K) r)
renumbered I K u (leaf handed k) = leaf handed (renumber (kept_handed K) u)
renumbered I K u (inner a b) = inner (renumber K.keep a) (renumber K.keep b)

-- a node's entry in the left list: 65,535 at a tip, else the left child
abbrev pub left_entry : Node → ℕ
left_entry (leaf k r) = 65535
left_entry (inner a b) = a

-- a node's entry in the right list: a tip's matrix row, or 32,768 + k for handed row k, else the right child
abbrev pub right_entry : Node → ℕ
right_entry (leaf symbol r) = r
right_entry (leaf handed k) = 32768 + k
right_entry (inner a b) = b

-- node i of the piece, in the numbers of the table
unfoldable pub piece_node : Input → Choice → ℕ → ℕ
unfolding original
piece_node I K i = original K.keep (nodes I) i

-- what stands there, in the numbers of the piece
unfoldable pub node_new : Input → Choice → ℕ → Node
unfolding piece_node kept_row kept_handed renumber
node_new I K i = renumbered I K (piece_node I K i) (K.node (piece_node I K i))

-- how many nodes, symbol tips and handed tips the piece has
abbrev pub kept_nodes : Input → Choice → ℕ
kept_nodes I K = renumber K.keep (nodes I)

abbrev pub kept_rows : Input → Choice → ℕ
kept_rows I K = renumber (kept_row I K) (tips_in symbol I)

abbrev pub kept_tips : Input → Choice → ℕ
kept_tips I K = renumber (kept_handed K) (nodes I)

-- the cell of matrix row r of the piece in column j
unfoldable pub kept_cell : Input → Choice → ℕ → ℕ → ℕ
unfolding cell_at original kept_row tips node_at
kept_cell I K r j = cell_at I.c I.cells j (original (kept_row I K) (tips_in symbol I) r)

-- the entry of handed row k of the piece in column j, for state x
unfoldable pub kept_entry : Input → Choice → ℕ → ℕ → ℕ → ℕ
unfolding original kept_handed
kept_entry I K j k x = K.entry j (original (kept_handed K) (nodes I) k) x

-- The piece of a table: the kept nodes with their matrix rows and handed rows, all columns.
abbrev pub piece : Input → Choice → Input
piece I K =
    input
    (list_of (kept_nodes I K) (λ i. left_entry (node_new I K i)))
    (list_of (kept_nodes I K) (λ i. right_entry (node_new I K i)))
    I.s I.costs I.c
    (cells_by (kept_rows I K) I.c (kept_cell I K))
    (entries_by I.c (kept_tips I K) I.s (kept_entry I K))

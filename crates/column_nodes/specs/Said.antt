-- What a table says of a node in a column.
-- Assumes nothing.
use Rattle.std.specs.Prelude.{◌≡◌, ℕ, ◌<◌, length, get_or}
use Rattle.parsimony.specs.Column.{cell_at, handed_at}
use Rattle.parsimony.specs.Table.{symbol, handed, leaf, inner}
use Rattle.promises.specs.Input.{Input, node_in, tips_in}
use Rattle.column_nodes.specs.declared.ColumnNode.{ColumnNode}
use Rattle.column_nodes.specs.declared.ColumnNode.TheVariants.{Symbol, Handed, Inner}

-- node v is a symbol tip of row r, and w is its cell in column j
pub record SymbolTip (I : Input) (j v w : ℕ) : Type 0 where
  pub r : ℕ
  pub node : node_in I v ≡ leaf symbol r
  pub cell : w ≡ cell_at I.c I.cells j r

-- node v is a handed tip of row k, and the entry of each state is the one handed in column j
pub record HandedTip (I : Input) (j v : ℕ) (long : ℕ) (entry : ℕ → ℕ) : Type 0 where
  pub k : ℕ
  pub node : node_in I v ≡ leaf handed k
  pub count : long ≡ I.s
  pub entries : (x : ℕ) → x < I.s → entry x ≡ handed_at I.s (tips_in handed I) I.handed j k x

-- by what the node is
abbrev pub SaysOf : Input → ℕ → ℕ → ColumnNode → Type 0
SaysOf I j v (Symbol w) = SymbolTip I j v w
SaysOf I j v (Handed row) = HandedTip I j v (length row.now) (λ x. get_or row.now x 0)
SaysOf I j v (Inner a b) = node_in I v ≡ inner a b

-- the node n is node v of table I in column j
pub record Says (I : Input) (j v : ℕ) (n : ColumnNode) : Type 0 where
  pub said : SaysOf I j v n

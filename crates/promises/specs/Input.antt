-- What a call is given to read.
-- Assumes nothing.
use Rattle.std.specs.Prelude.{List, [], ℕ, Option, length}
use Rattle.std.specs.Borrow.{Bor}
use denote.Triple.Both.{Both}
use Rattle.parsimony.specs.Column.{Column, column_of}
use Rattle.parsimony.specs.Table.{Kind, Node, node_at, tips}
use Rattle.promises.specs.declared.table.Table.{Table}

-- the tree table, the number of states and the costs, the number of columns, the cells and the handed entries
pub record Input : Type 0 where
  pub left : List ℕ
  pub right : List ℕ
  pub s : ℕ
  pub costs : List ℕ
  pub c : ℕ
  pub cells : List ℕ
  pub handed : List ℕ

-- the input of a call, from its lists and numbers in the order of the calls
abbrev pub input : List ℕ → List ℕ → ℕ → List ℕ → ℕ → List ℕ → List ℕ → Input
input left right s costs c cells handed =
    record { left = left; right = right; s = s; costs = costs; c = c; cells = cells; handed = handed }

-- the input that a table holds
abbrev pub input_of : Table → Input
input_of T = input T.left.now T.right.now T.s T.costs.now T.c T.cells.now T.handed.now

-- the input without its handed entries
abbrev pub unhanded : Input → Input
unhanded I = record I { handed = [] }

-- a start for the root: none, or the state (labelling) or set of states (sets) that is given
abbrev pub Start : Type 0
Start = Option ℕ

-- the input of a function as its `requires` names it: what the lists hold now, and these handed entries
abbrev pub asked_with : Bor (List ℕ) → Bor (List ℕ) → ℕ → Bor (List ℕ) → ℕ → Bor (List ℕ) → List ℕ → Input
asked_with left right s costs c cells handed = input left.now right.now s costs.now c cells.now handed

abbrev pub asked : Bor (List ℕ) → Bor (List ℕ) → ℕ → Bor (List ℕ) → ℕ → Bor (List ℕ) → Bor (List ℕ) → Input
asked left right s costs c cells handed = asked_with left right s costs c cells handed.now

-- the input of a function as its `ensures` names it: what the lists held at entry, and these handed entries
abbrev pub entered_with {ℓ} : {X : Type ℓ} → Both (Bor (List ℕ)) X → Both (Bor (List ℕ)) X → ℕ
    → Both (Bor (List ℕ)) X → ℕ → Both (Bor (List ℕ)) X → List ℕ → Input
entered_with left right s costs c cells handed =
    asked_with left.entry right.entry s costs.entry c cells.entry handed

abbrev pub entered {ℓ} : {X : Type ℓ} → Both (Bor (List ℕ)) X → Both (Bor (List ℕ)) X → ℕ → Both (Bor (List ℕ)) X
    → ℕ → Both (Bor (List ℕ)) X → Both (Bor (List ℕ)) X → Input
entered left right s costs c cells handed = entered_with left right s costs c cells handed.entry.now

-- the number of nodes
abbrev pub nodes : Input → ℕ
nodes I = length I.left

-- what the table says of each node
abbrev pub node_in : Input → ℕ → Node
node_in I = node_at I.left I.right

-- the number of tips of a kind: t symbol tips and h handed tips
abbrev pub tips_in : Kind → Input → ℕ
tips_in k I = tips k (node_in I) (nodes I)

-- column j
abbrev pub column : Input → ℕ → Column
column I j = column_of I.left I.right I.s I.costs I.c I.cells I.handed j

-- Rows: for each state of a node the least cost of its subtree; the score and the total by rows.
-- Assumes nothing.
use Rattle.std.specs.Prelude.{◌≡◌, List, ℕ, ◌<◌, ◌≤◌}
use Rattle.parsimony.specs.Barred.{plus}
use Rattle.parsimony.specs.Column.{Column, column_of}
use Rattle.parsimony.specs.Least.{least}
use Rattle.parsimony.specs.Sum.{sum}
use Rattle.parsimony.specs.Tree.{merge, ascend}

-- the cost of a child in state y under a parent in state x, given the child's row: the change, and the child's entry
abbrev pub through : Column → (ℕ → ℕ) → ℕ → ℕ → ℕ
through P row x y = plus (P.cost x y) (row y)

-- the least of these over y
unfoldable pub up : Column → (ℕ → ℕ) → ℕ → ℕ
unfolding plus least
up P row x = least (through P row x) P.states

-- an inner node's row from its children's: for each state x, both children's least added
unfoldable pub inner_row : Column → (ℕ → ℕ) → (ℕ → ℕ) → ℕ → ℕ
unfolding up plus
inner_row P a b x = plus (up P a x) (up P b x)

-- node v's row: a tip's own, an inner node's from its children's
unfoldable pub row : Column → ℕ → ℕ → ℕ
unfolding ascend inner_row
row P v = ascend P.kids P.entry (inner_row P) v

-- R holds each node's row
abbrev pub IsRows : Column → (ℕ → ℕ → ℕ) → Type 0
IsRows P R = (v x : ℕ) → v ≤ P.last → x < P.states → R v x ≡ merge (P.kids v) (P.entry v) (inner_row P) R x

-- the score by rows: the least entry of the root's row
unfoldable pub score : Column → ℕ
unfolding row least
score P = least (row P P.last) P.states

-- the total: the sum of the scores of columns 0 to c-1
unfoldable pub total : List ℕ → List ℕ → ℕ → List ℕ → ℕ → List ℕ → List ℕ → ℕ
unfolding sum score column_of
total left right s costs c cells entries = sum (λ j. score (column_of left right s costs c cells entries j)) c

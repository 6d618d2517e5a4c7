-- The row room: the rows of all nodes in one column, one after the other.
-- Assumes nothing.
use Rattle.std.specs.Prelude.{List, ◌≡◌, ℕ, ◌+◌, ◌*◌, ◌<◌}
use Rattle.parsimony.specs.Row.{row}
use Rattle.parsimony.specs.Written.{Written, Below}
use Rattle.promises.specs.Input.{Input, nodes, column}

-- the entries e are the rows R of the nodes below n, s entries each: that of node v and state x stands at v * s + x
abbrev pub HoldsRows : (ℕ → ℕ → ℕ) → ℕ → ℕ → (ℕ → ℕ) → Type 0
HoldsRows R n s e = (v x : ℕ) → v < n → x < s → e (v * s + x) ≡ R v x

-- the rows of column j were written into the row room, and nothing else
abbrev pub Worked : Input → ℕ → List ℕ → List ℕ → Type 0
Worked I j = Written (Below (nodes I * I.s)) (HoldsRows (row (column I j)) (nodes I) I.s)

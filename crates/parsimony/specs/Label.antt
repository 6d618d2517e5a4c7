-- The labelling that is returned: the choosing step and the descent from a start.
-- Assumes nothing.
use Rattle.std.specs.Prelude.{ℕ}
use Rattle.parsimony.specs.Column.{Column}
use Rattle.parsimony.specs.Least.{low}
use Rattle.parsimony.specs.Row.{row, through}
use Rattle.parsimony.specs.Tie.{rule_in_use}
use Rattle.parsimony.specs.Tree.{descend, Descent}

-- the choosing step: the state of a child with this row under a parent in state x, by the tie rule
unfoldable pub choose : (ℕ → ℕ → (ℕ → ℕ) → ℕ) → Column → (ℕ → ℕ) → ℕ → ℕ
choose rule P child_row x = rule P.states x (through P child_row x)

-- l is the labelling from a start x, read off the rows R: the root takes x, each child what the choosing step gives
abbrev pub IsLabels : (ℕ → ℕ → (ℕ → ℕ) → ℕ) → Column → (ℕ → ℕ → ℕ) → ℕ → (ℕ → ℕ) → Type 0
IsLabels rule P R x l = Descent P.last P.kids (λ u. choose rule P (R u)) x l

-- the labelling from a start x for the root: each child by the choosing step, given its parent's state
unfoldable pub label_from : (ℕ → ℕ → (ℕ → ℕ) → ℕ) → Column → ℕ → ℕ → ℕ
unfolding choose descend row
label_from rule P x = descend P.last P.kids (λ u. choose rule P (row P u)) x

-- the free start: the lowest state among the least entries of the root's row
unfoldable pub free_start : Column → ℕ
unfolding low row
free_start P = low (row P P.last) P.states

-- the labelling returned: from the free start, by the tie rule in use
unfoldable pub label : Column → ℕ → ℕ
unfolding label_from free_start rule_in_use
label P = label_from rule_in_use P (free_start P)

-- Node sets: the states taken at a node by any least labelling, by their meaning and by rows.
-- Assumes nothing.
use Rattle.std.specs.Prelude.{Bool, ◌≡◌, ℕ, eqb}
use Rattle.parsimony.specs.Column.{Column}
use Rattle.parsimony.specs.Labelling.{LeastLabelling, LeastFrom}
use Rattle.parsimony.specs.Row.{row, through, up, score}
use Rattle.parsimony.specs.StateSet.{Member, holds, gather}
use Rattle.parsimony.specs.Test.{both, some}
use Rattle.parsimony.specs.Tree.{descend, Descent}

-- some least labelling takes state y at node v
abbrev pub Taken : Column → ℕ → ℕ → Type 0
Taken P v y = (l : ℕ → ℕ) × LeastLabelling P l × (l v ≡ y)

-- for a start set w: for some member x of w, some labelling least among those with the root in x takes y at node v
abbrev pub TakenFrom : Column → ℕ → ℕ → ℕ → Type 0
TakenFrom P w v y = (x : ℕ) × Member w x × ((l : ℕ → ℕ) × LeastFrom P x l × (l v ≡ y))

-- the test that state y of a child with this row reaches the least under a parent in state x
unfoldable pub reaches : Column → (ℕ → ℕ) → ℕ → ℕ → Bool
unfolding up
reaches P child_row x y = eqb (through P child_row x y) (up P child_row x)

-- the set step: the states of a child with this row that reach the least under some state of the parent's set w
unfoldable pub child_set : Column → (ℕ → ℕ) → ℕ → ℕ
unfolding reaches both some holds gather
child_set P child_row w = gather (λ y. some (λ x. both (holds w x) (reaches P child_row x y)) P.states) P.states

-- S has the node sets from a start set w, read off the rows R: the root's is w, each child's what the set step gives
abbrev pub IsSets : Column → (ℕ → ℕ → ℕ) → ℕ → (ℕ → ℕ) → Type 0
IsSets P R w S = Descent P.last P.kids (λ u. child_set P (R u)) w S

-- the node sets from a start set w for the root
unfoldable pub sets_from : Column → ℕ → ℕ → ℕ
unfolding child_set descend row
sets_from P w = descend P.last P.kids (λ u. child_set P (row P u)) w

-- the free start set: the states at which the root's row is least
unfoldable pub free_set : Column → ℕ
unfolding gather row score
free_set P = gather (λ x. eqb (row P P.last x) (score P)) P.states

-- the node sets: from the free start set
unfoldable pub sets : Column → ℕ → ℕ
unfolding sets_from free_set
sets P = sets_from P (free_set P)

-- Starts for the root: what may be given, and what the definitions by rows give from it.
-- Assumes nothing.
use Rattle.std.specs.Prelude.{◌≡◌, ℕ, ◌-◌, ◌^◌, ◌<◌}
use Rattle.parsimony.specs.Barred.{barred}
use Rattle.parsimony.specs.Column.{Column}
use Rattle.parsimony.specs.Label.{label_from, free_start}
use Rattle.parsimony.specs.NodeSet.{sets_from, free_set}
use Rattle.parsimony.specs.Row.{row}
use Rattle.parsimony.specs.StateSet.{Member}
use Rattle.parsimony.specs.Tie.{rule_in_use}
use Rattle.promises.specs.Input.{Input, nodes, column}
use Rattle.promises.specs.Input.{Start}
use Rattle.std.specs.Prelude.{None, Some}

-- state x is not barred at the root in column j
abbrev pub OpenRoot : Input → ℕ → ℕ → Type 0
OpenRoot I j x = row (column I j) (nodes I - 1) x ≡ barred → ⊥

-- x may be given as start: it is below s and not barred at the root
pub record MayStart (I : Input) (j x : ℕ) : Type 0 where
  pub state : x < I.s
  pub unbarred : OpenRoot I j x

-- the set w may be given as start: it is not empty, its states are below s, and none of them is barred at the root
pub record MayStartSet (I : Input) (j w : ℕ) : Type 0 where
  pub some : 0 < w
  pub within : w < 2 ^ I.s
  pub unbarred : (x : ℕ) → Member w x → OpenRoot I j x

-- no start, or a state that may be given
abbrev pub StateStart : Input → ℕ → Start → Type 0
StateStart I j None = Unit {0}
StateStart I j (Some x) = MayStart I j x

-- no start, or a set of states that may be given
abbrev pub SetStart : Input → ℕ → Start → Type 0
SetStart I j None = Unit {0}
SetStart I j (Some w) = MayStartSet I j w

-- what a start gives the root: the one given, or else the free one
abbrev pub start_or : Start → ℕ → ℕ
start_or None free = free
start_or (Some x) free = x

-- the labelling by rows from a start, by the tie rule in use
abbrev pub labels_for : Column → Start → ℕ → ℕ
labels_for P start = label_from rule_in_use P (start_or start (free_start P))

-- the node sets by rows from a start
abbrev pub sets_for : Column → Start → ℕ → ℕ
sets_for P start = sets_from P (start_or start (free_set P))

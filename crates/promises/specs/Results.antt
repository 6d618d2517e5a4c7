-- What is right for each result, by its meaning.
-- Assumes nothing.
use Rattle.std.specs.Prelude.{◌↔◌, ◌≡◌, ℕ, ◌^◌, ◌<◌, ◌≤◌}
use Rattle.parsimony.specs.Barred.{barred}
use Rattle.parsimony.specs.Column.{Column}
use Rattle.parsimony.specs.Labelling.{Agrees, cost_of, LeastLabelling, LeastFrom}
use Rattle.parsimony.specs.Least.{LowestLeast}
use Rattle.parsimony.specs.NodeSet.{Taken, TakenFrom}
use Rattle.parsimony.specs.Row.{row, through}
use Rattle.parsimony.specs.StateSet.{Member}
use Rattle.parsimony.specs.Tie.{TakesTie}
use Rattle.parsimony.specs.Tree.{Has}
use Rattle.promises.specs.Input.{Start}
use Rattle.std.specs.Prelude.{None, Some}

-- a least labelling whose root is the lowest state at which the root's row is least
pub record FreeLabels (P : Column) (l : ℕ → ℕ) : Type 0 where
  pub least : LeastLabelling P l
  pub root : LowestLeast (row P P.last) P.states (l P.last)

-- without a start such a labelling; with a start x one that is least among those with the root in x
abbrev pub StartLabels : Column → Start → (ℕ → ℕ) → Type 0
StartLabels P None l = FreeLabels P l
StartLabels P (Some x) l = LeastFrom P x l

-- the labelling from a start: each child takes the tie under its parent's state
pub record IsLabelling (P : Column) (start : Start) (l : ℕ → ℕ) : Type 0 where
  pub least : StartLabels P start l
  pub children : (p u : ℕ) → p ≤ P.last → Has u (P.kids p)
      → TakesTie (through P (row P u) (l p)) P.states (l p) (l u)

-- state y is taken at node v: by some least labelling; with a start set, by some labelling least for one of its members
abbrev pub TakenBy : Column → Start → ℕ → ℕ → Type 0
TakenBy P None v y = Taken P v y
TakenBy P (Some w) v y = TakenFrom P w v y

-- w is the set of node v: the states below s that are taken there
pub record IsSet (P : Column) (start : Start) (v w : ℕ) : Type 0 where
  pub within : w < 2 ^ P.states
  pub members : (y : ℕ) → Member w y ↔ TakenBy P start v y

-- e is the entry of state x that a branch hands up: the least cost with the root in x, or barred where no labelling
-- that agrees with the tips has the root in x
pub record IsEntry (P : Column) (x e : ℕ) : Type 0 where
  pub small : e ≤ barred
  pub reached : (e ≡ barred → ⊥) → (l : ℕ → ℕ) × LeastFrom P x l × (cost_of P l ≡ e)
  pub shut : e ≡ barred → (l : ℕ → ℕ) → Agrees P l → l P.last ≡ x → ⊥

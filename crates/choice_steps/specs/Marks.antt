-- Marks: the states and the sets of states that a walk from the root down gives, and what holds of either kind.
-- Assumes nothing.
use Rattle.std.specs.Prelude.{List, ◌≡◌, ℕ, ◌+◌, ◌*◌, ◌-◌, ◌^◌, ◌<◌, ◌≤◌, IfSome, get_or}
use Rattle.parsimony.specs.Column.{cost_at}
use Rattle.parsimony.specs.Limits.{most_states, cell_bits}
use Rattle.parsimony.specs.Row.{row}
use Rattle.parsimony.specs.Table.{kids_at}
use Rattle.parsimony.specs.Tie.{rule_in_use}
use Rattle.parsimony.specs.Tree.{Kids, Descent}
use Rattle.parsimony.specs.Written.{Written, entries, Below}
use Rattle.promises.specs.CallRules.{Allowed}
use Rattle.promises.specs.Input.{Input, Start, nodes, column}
use Rattle.promises.specs.RowRoom.{HoldsRows}
use Rattle.promises.specs.Starts.{start_or}
use Rattle.row_step.specs.Lane.{lane}
use Rattle.choice_steps.specs.Ties.{reached_under}

-- what a child gets under a parent with a value, from the number of states, the costs and its row
abbrev pub Passing : Type 0
Passing = ℕ → (ℕ → ℕ → ℕ) → (ℕ → ℕ) → ℕ → ℕ

-- the state of a child under a parent in state x, by the tie rule in use
unfoldable pub chosen : ℕ → (ℕ → ℕ → ℕ) → (ℕ → ℕ) → ℕ → ℕ
unfolding rule_in_use
chosen s cost entry x = rule_in_use s x (lane (cost x) entry)

-- the set of a child under a parent with set w: the states that reach the least under some state of w
unfoldable pub settled : ℕ → (ℕ → ℕ → ℕ) → (ℕ → ℕ) → ℕ → ℕ
unfolding reached_under
settled s cost entry w = reached_under cost entry s w s

-- x is one of s states
abbrev pub IsState : ℕ → ℕ → Type 0
IsState s x = x < s

-- w fits a cell, whatever the number of states
abbrev pub IsCell : ℕ → ℕ → Type 0
IsCell s w = w < 2 ^ cell_bits

-- the entries of node u's row among the rows
abbrev pub row_of : ℕ → List ℕ → ℕ → ℕ → ℕ
row_of s rows u y = get_or rows (u * s + y) 0

-- what child u gets under a parent with value x, by its row among the rows
abbrev pub gives : Passing → Input → List ℕ → ℕ → ℕ → ℕ
gives pass I rows u x = pass I.s (cost_at I.s I.costs) (row_of I.s rows u) x

-- the values of all n nodes, from the root's start down, were written, and nothing else
abbrev pub WalkedDown : ℕ → (ℕ → Kids) → (ℕ → ℕ → ℕ) → ℕ → List ℕ → List ℕ → Type 0
WalkedDown n kids give start = Written (Below n) (Descent (n - 1) kids give start)

-- the same of the nodes of a table, by the rows of a column
abbrev pub Walked : Passing → Input → List ℕ → ℕ → List ℕ → List ℕ → Type 0
Walked pass I rows = WalkedDown (nodes I) (kids_at I.left I.right) (gives pass I rows)

-- What holds of marks of a kind. What the root takes where it is free, and what a child gets, fits, and depends on the
-- entries of the s states alone; what fits s states fits the most, and what may be given as start fits. And a walk from
-- the root down, by the rows of a column and from a start that may be given, leaves the output of the kind.
pub record MarkLaws (Fits : ℕ → ℕ → Type 0) (free : (ℕ → ℕ) → ℕ → ℕ) (pass : Passing)
    (May : Input → ℕ → Start → Type 0) (Output : Input → ℕ → Start → List ℕ → List ℕ → Type 0) : Type 0 where
  pub wide : (s x : ℕ) → s ≤ most_states → Fits s x → Fits most_states x
  pub free_fits : (f : ℕ → ℕ) (s : ℕ) → 0 < s → s ≤ most_states → Fits s (free f s)
  pub free_same : (f g : ℕ → ℕ) (s : ℕ) → 0 < s → ((y : ℕ) → y < s → f y ≡ g y) → free f s ≡ free g s
  pub pass_fits : (s : ℕ) (cost : ℕ → ℕ → ℕ) (f : ℕ → ℕ) (x : ℕ) → 0 < s → s ≤ most_states → Fits s (pass s cost f x)
  pub pass_same : (s : ℕ) (cost : ℕ → ℕ → ℕ) (f g : ℕ → ℕ) (x : ℕ) → 0 < s
      → ((y : ℕ) → y < s → f y ≡ g y) → pass s cost f x ≡ pass s cost g x
  pub may_fits : (I : Input) → Allowed I → (j : ℕ) → j < I.c → (start : Start) → May I j start
      → IfSome start (λ x. Fits I.s x)
  pub means : (I : Input) → Allowed I → (j : ℕ) → j < I.c → (rows : List ℕ)
      → HoldsRows (row (column I j)) (nodes I) I.s (entries rows) → (start : Start) (l l' : List ℕ) → May I j start
      → Walked pass I rows (start_or start (free (row_of I.s rows (nodes I - 1)) I.s)) l l' → Output I j start l l'

-- The tables that may be cut.
-- Assumes nothing.
use Rattle.std.specs.Prelude.{◌⊎◌, ◌≡◌, ℕ, ◌<◌, ◌≤◌}
use Rattle.parsimony.specs.Allowed.{most_handed}
use Rattle.parsimony.specs.Barred.{barred}
use Rattle.parsimony.specs.Row.{row}
use Rattle.promises.specs.CallRules.{Allowed}
use Rattle.promises.specs.Input.{Input, nodes, column}

-- The table keeps the rules 1 to 5, and each entry of each row may be handed up: it is at most 1,020,978 or barred.
-- So it is for every table without handed rows, and for whatever is cut from it.
pub record Cuttable (I : Input) : Type 0 where
  pub table : Allowed I
  pub small : (j v x : ℕ) → j < I.c → v < nodes I → x < I.s
      → (row (column I j) v x ≤ most_handed) ⊎ (row (column I j) v x ≡ barred)

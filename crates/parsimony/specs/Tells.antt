-- What a yes or no says of a statement.
-- Assumes nothing.
use Rattle.std.specs.Prelude.{Bool, true, false}

-- yes: the statement holds; no: it does not
abbrev pub Told : Type 0 → Bool → Type 0
Told P true = P
Told P false = P → ⊥

-- the answer b tells whether P holds
pub record Tells (P : Type 0) (b : Bool) : Type 0 where
  pub told : Told P b

-- Rules in an order: all of them hold, or one is the first that does not.
-- Assumes nothing.
use Rattle.std.specs.Prelude.{List, [], ◌∷◌, ◌⊎◌, ◌≡◌, ℕ}

-- a rule: the number of the refusal that is given where it is the first that does not hold, and what it asks
pub record Rule : Type 1 where
  pub number : ℕ
  pub asks : Type 0

-- a rule from its number and what it asks
abbrev pub rule : ℕ → Type 0 → Rule
rule number asks = record { number = number; asks = asks }

-- every rule of the list holds
abbrev pub All : List Rule → Type 0
All [] = Unit {0}
All (R ∷ Rs) = R.asks × All Rs

-- the first rule of the list that does not hold has this number
abbrev pub First : List Rule → ℕ → Type 0
First [] k = ⊥
First (R ∷ Rs) k = ((R.asks → ⊥) × (k ≡ R.number)) ⊎ (R.asks × First Rs k)

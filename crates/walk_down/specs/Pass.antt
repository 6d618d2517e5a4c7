-- What a node passes on to its children.
-- Assumes nothing.
use Rattle.std.specs.Prelude.{List, ◌≡◌, ℕ}
use Rattle.parsimony.specs.Tree.{Kids, Has}
use Rattle.parsimony.specs.Written.{Written}

-- in e the children of a node with value x have their values
pub record Gets (kids : Kids) (give : ℕ → ℕ → ℕ) (x : ℕ) (e : ℕ → ℕ) : Type 0 where
  pub child : {u : ℕ} → Has u kids → e u ≡ give u x

-- they were given their values, and nothing else was written
abbrev pub PassedOn : Kids → (ℕ → ℕ → ℕ) → ℕ → List ℕ → List ℕ → Type 0
PassedOn kids give x = Written (λ i. Has i kids) (Gets kids give x)

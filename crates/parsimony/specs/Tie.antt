-- Ties: the rule by which a child's state is taken among those that cost least, and the rule in use.
-- Assumes nothing.
use Rattle.std.specs.Prelude.{◌≡◌, ℕ, ◌<◌}
use Rattle.parsimony.specs.Least.{Least, LowestLeast, low}

-- A tie rule, given s, the parent's state x and a function f, picks a number below s at which f is least.
-- It looks at nothing of f but its values below s.
pub record TieRule (rule : ℕ → ℕ → (ℕ → ℕ) → ℕ) : Type 0 where
  pub ties : (s x : ℕ) (f : ℕ → ℕ) → 0 < s → Least f s (rule s x f)
  pub same : (s x : ℕ) (f g : ℕ → ℕ) → ((y : ℕ) → y < s → f y ≡ g y) → rule s x f ≡ rule s x g

-- the rule that takes the lowest, whatever the parent's state x
unfoldable pub lowest : ℕ → ℕ → (ℕ → ℕ) → ℕ
unfolding low
lowest s x f = low f s

-- the rule in use
unfoldable pub rule_in_use : ℕ → ℕ → (ℕ → ℕ) → ℕ
unfolding lowest
rule_in_use = lowest

-- y is the tie taken under a parent in state x, where f is what each of the child's states below s costs: the lowest of
-- the least
pub record TakesTie (f : ℕ → ℕ) (s x y : ℕ) : Type 0 where
  pub taken : LowestLeast f s y

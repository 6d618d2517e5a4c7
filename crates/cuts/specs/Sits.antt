-- A column sits in another by a map of its nodes.
-- Assumes nothing.
use Rattle.std.specs.Prelude.{◌≡◌, ℕ, ◌<◌, ◌≤◌}
use Rattle.parsimony.specs.Column.{Column}
use Rattle.parsimony.specs.Row.{row}
use Rattle.parsimony.specs.Tree.{tip, two}

-- A sits in B by ρ: states and costs are the same; an inner node goes to an inner node, and its children to the
-- children there; a tip's row is B's row at the node that the tip goes to.
pub record Sits (A B : Column) (ρ : ℕ → ℕ) : Type 0 where
  pub states : A.states ≡ B.states
  pub cost : A.cost ≡ B.cost
  pub inside : (v : ℕ) → v ≤ A.last → ρ v ≤ B.last
  pub inner : (v a b : ℕ) → v ≤ A.last → A.kids v ≡ two a b → B.kids (ρ v) ≡ two (ρ a) (ρ b)
  pub tips : (v x : ℕ) → v ≤ A.last → A.kids v ≡ tip → x < A.states → A.entry v x ≡ row B (ρ v) x

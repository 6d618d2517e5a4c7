-- What the rules of tables, costs, cells and handed rows give a column.
-- Assumes nothing.
use Rattle.std.specs.Prelude.{◌⊎◌, ◌≡◌, ℕ, ◌<◌, ◌≤◌}
use Rattle.parsimony.specs.Allowed.{most_handed}
use Rattle.parsimony.specs.Barred.{barred}
use Rattle.parsimony.specs.Column.{Column}
use Rattle.parsimony.specs.Tree.{tip, Rooted}

-- A column is sound, with tips' entries up to most: its tree is rooted and has at most 1,023 nodes; there is a state; a
-- cost is at most 999; a tip's entry is barred or at most most, and not all entries of a tip are barred.
pub record Sound (most : ℕ) (P : Column) : Type 0 where
  pub tree : Rooted P.last P.kids
  pub nodes : P.last < 1023
  pub states : 0 < P.states
  pub cheap : (x y : ℕ) → x < P.states → y < P.states → P.cost x y ≤ 999
  pub little : most ≤ most_handed
  pub range : (v x : ℕ) → v ≤ P.last → P.kids v ≡ tip → x < P.states
      → (P.entry v x ≤ most) ⊎ (P.entry v x ≡ barred)
  pub unbarred : (v : ℕ) → v ≤ P.last → P.kids v ≡ tip
      → (x : ℕ) × (x < P.states) × (P.entry v x ≡ barred → ⊥)

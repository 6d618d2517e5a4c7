-- Counting by sets, for unit costs: preliminary sets and the change count.
-- Assumes nothing.
use Rattle.std.specs.Prelude.{List, ◌≡◌, ℕ, ◌+◌, ◌<◌, eqb}
use Rattle.parsimony.specs.Column.{cell_at}
use Rattle.parsimony.specs.StateSet.{common, union}
use Rattle.parsimony.specs.Table.{Node, leaf, inner, symbol, handed, kids_at, node_at}
use Rattle.parsimony.specs.Test.{at, pick}
use Rattle.parsimony.specs.Tree.{Kids, ascend}

-- a node's preliminary set and the number of changes counted up to it
pub record Counted : Type 0 where
  pub set : ℕ
  pub changes : ℕ

-- a tip's: its cell, and no change
unfoldable pub tip_count : (ℕ → ℕ) → ℕ → Counted
tip_count cell v = record { set = cell v; changes = 0 }

-- the common part of two sets if not empty, else their union
unfoldable pub meet : ℕ → ℕ → ℕ
unfolding pick
meet a b = pick (eqb (common a b) 0) (union a b) (common a b)

-- one change where two sets have no common part, else none
unfoldable pub change : ℕ → ℕ → ℕ
unfolding at
change a b = at 0 1 (common a b)

-- an inner node's, from its children's
unfoldable pub join_counts : Counted → Counted → Counted
unfolding meet change
join_counts a b = record { set = meet a.set b.set; changes = a.changes + b.changes + change a.set b.set }

-- node v's, in a tree whose tips have these cells
unfoldable pub counted : (ℕ → Kids) → (ℕ → ℕ) → ℕ → Counted
unfolding ascend tip_count join_counts
counted kids cell v = ascend kids (tip_count cell) join_counts v

-- unit costs: 0 on the diagonal and 1 off it, for the states 0 to s-1
abbrev pub UnitCosts : ℕ → (ℕ → ℕ → ℕ) → Type 0
UnitCosts s cost = (x y : ℕ) → x < s → y < s → cost x y ≡ pick (eqb x y) 0 1

-- a symbol tip's cell, given each matrix row's. Counting takes no handed tips, and an inner node has no cell; the empty
-- set stands there and is never read.
abbrev pub tip_cell : (ℕ → ℕ) → Node → ℕ
tip_cell cell (leaf symbol r) = cell r
tip_cell cell (leaf handed k) = 0
tip_cell cell (inner a b) = 0

-- node v's preliminary set and changes in column j of a table with c columns of cells
unfoldable pub counted_at : List ℕ → List ℕ → ℕ → List ℕ → ℕ → ℕ → Counted
unfolding counted cell_at node_at
counted_at left right c cells j =
    counted (kids_at left right) (λ u. tip_cell (cell_at c cells j) (node_at left right u))

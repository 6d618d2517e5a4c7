-- The entry of a symbol tip by the test of its cell.
-- Assumes nothing.
use mathlib.Core.Bool.{Bool, true, false}
use mathlib.Core.Path.{◌≡◌, sym, subst}
use Prim.Native.Nat.{ℕ}
use Rattle.parsimony.specs.Barred.{barred}
use Rattle.parsimony.specs.Column.{cell_entry}
use Rattle.parsimony.specs.StateSet.{Member}
use Rattle.parsimony.specs.Tells.{Tells}
use Rattle.parsimony.proofs.ColumnLaws.{symbol_adds, symbol_bars}

-- a yes: the state is in the cell, and the entry is 0
pub cell_yes : (cell x : ℕ) (b : Bool) → Tells (Member cell x) b → b ≡ true → 0 ≡ cell_entry cell x
cell_yes cell x b t e = sym (symbol_adds cell x (subst (Tells (Member cell x)) e t).told)

-- a no: it is barred
pub cell_no : (cell x : ℕ) (b : Bool) → Tells (Member cell x) b → b ≡ false → barred ≡ cell_entry cell x
cell_no cell x b t e = sym (symbol_bars cell x (subst (Tells (Member cell x)) e t).told)

-- What tree text gives from a place on, and how a name of it is read.
-- Assumes nothing.
use Rattle.std.specs.Prelude.{List, ℕ, eqb}
use Rattle.parsimony.specs.Test.{pick}
use Rattle.sheet_lines.specs.Count.{on_place}
use Rattle.sheet_tips.specs.Marks.{is_marked, marked}
use Rattle.sheet_tips.specs.Token.{token_end, row_named}
use Rattle.sheet_tips.specs.Vine.{Vine, tip}

-- what the text from a place on gives: a tree, the place after it and the names met so far, or no tree
pub data Parsed : Type 0 where
  got : Vine → ℕ → List ℕ → Parsed
  no_tree : Parsed

module _ (sheet names : List ℕ) (t : ℕ) where
  -- a name: one of the sheet's that has not been met yet
  unfoldable pub tip_of : List ℕ → ℕ → Parsed
  unfolding on_place row_named pick is_marked marked token_end
  tip_of marks i =
      pick (eqb (token_end sheet i) i) no_tree
      (on_place (row_named sheet names t i (token_end sheet i)) no_tree
      (λ r. pick (is_marked marks r) no_tree (got (tip r) (token_end sheet i) (marked marks r))))

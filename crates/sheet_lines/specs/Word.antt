-- A word of the sheet.
-- Assumes nothing.
use Rattle.std.specs.Prelude.{Option, Some, None, List, [], ◌∷◌, ℕ, ◌+◌, eqb, drop}
use Rattle.parsimony.specs.Test.{pick}

-- the place after the word, where some bytes, counted from place i, begin with it
unfoldable pub word_in : List ℕ → List ℕ → ℕ → Option ℕ
unfolding pick
word_in [] bytes i = Some i
word_in (letter ∷ word) [] i = None
word_in (letter ∷ word) (byte ∷ more) i = pick (eqb byte letter) (word_in word more (i + 1)) None

-- the place after the word, where the sheet has it at a place
unfoldable pub word_of : List ℕ → List ℕ → ℕ → Option ℕ
unfolding word_in
word_of word sheet at = word_in word (drop at sheet) at

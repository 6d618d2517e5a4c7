-- Labels as letters.
-- Assumes nothing.
use Rattle.std.specs.Prelude.{List, [], ◌∷◌, ◌++◌, ℕ, zero, suc}

-- the byte of a state's letter: A, C, G and T for the states 0 to 3; there is no other, and T stands there
unfoldable pub letter_of : ℕ → ℕ
letter_of zero = 65
letter_of (suc zero) = 67
letter_of (suc (suc zero)) = 71
letter_of (suc (suc (suc x))) = 84

-- the letters of the states that l gives the nodes 0 to n-1, in node order and without spaces
unfoldable pub letters : (ℕ → ℕ) → ℕ → List ℕ
unfolding letter_of
letters l zero = []
letters l (suc n) = letters l n ++ (letter_of (l n) ∷ [])

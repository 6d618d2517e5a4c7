-- Bytes: a range of them, a text as bytes, and the bytes between two places.
-- Assumes nothing.
use Rattle.std.specs.Prelude.{Bool, true, List, [], ◌∷◌, ℕ, leb, take, drop}
use Prim.Native.Char.{code}
use Prim.Native.String as Text
use Prim.Native.String.{String}
use Rattle.parsimony.specs.Test.{both}

-- the test that a byte is least to most
unfoldable pub within : ℕ → ℕ → ℕ → Bool
unfolding both
within least most byte = both (leb least byte) (leb byte most)

-- a text as bytes
unfoldable pub bytes : String → List ℕ
bytes Text.[] = []
bytes (Text.◌∷◌ b s) = code b ∷ bytes s

-- the bytes of the sheet from a place up to another
unfoldable pub text_of : List ℕ → ℕ → ℕ → List ℕ
text_of sheet at end = drop at (take end sheet)

-- the test f holds of every byte
unfoldable pub every : (ℕ → Bool) → List ℕ → Bool
unfolding both
every f [] = true
every f (byte ∷ more) = both (f byte) (every f more)

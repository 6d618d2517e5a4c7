-- A line: bytes 32 to 126 up to a byte 10, which is its end.
-- Assumes nothing.
use Rattle.std.specs.Prelude.{Option, Some, None, List, [], ◌∷◌, ℕ, ◌+◌, eqb, drop}
use Rattle.sheet_lines.specs.Bytes.{within}
use Rattle.parsimony.specs.Test.{pick}

-- the first byte 10 of some bytes, counted from place i, if no byte before it is outside 32 to 126
unfoldable pub end_in : List ℕ → ℕ → Option ℕ
unfolding pick within
end_in [] i = None
end_in (byte ∷ more) i = pick (eqb byte 10) (Some i) (pick (within 32 126 byte) (end_in more (i + 1)) None)

-- the end of the line that starts at a place, if it is a line
unfoldable pub line_end : List ℕ → ℕ → Option ℕ
unfolding end_in
line_end sheet at = end_in (drop at sheet) at

-- The limits that the width of a cell sets.
-- Assumes nothing.
use Rattle.std.specs.Prelude.{ℕ}

-- the most states that a table may have
abbrev pub most_states : ℕ
most_states = 16

-- the bits of the number that holds a cell or any other set of states
abbrev pub cell_bits : ℕ
cell_bits = 16

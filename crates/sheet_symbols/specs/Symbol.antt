-- The answer for a byte, by the code list.
-- Assumes nothing.
use Rattle.std.specs.Prelude.{Option, Some, None, ℕ, zero, suc}
use Rattle.sheet_symbols.specs.Code.{symbol_set}

-- a set of states, or no symbol where the set is empty
unfoldable pub answer : ℕ → Option ℕ
answer zero = None
answer (suc n) = Some (suc n)

-- what the byte stands for
unfoldable pub symbol_of : ℕ → Option ℕ
unfolding answer symbol_set
symbol_of byte = answer (symbol_set byte)

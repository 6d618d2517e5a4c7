-- The one computed test that each entry of the table is what the code list says of its byte.
-- Assumes nothing.
use mathlib.Core.Bool.{Bool}
use mathlib.Core.Path.{◌≡◌, refl, sym}
use Prim.Native.Nat.{ℕ, ◌<◌}
use borrow.Author.Tests.{eqb-true}
use lib.Dec.{eqb}
use lib.ListN.{get_or}
use Rattle.sheet_symbols.specs.Code.{symbol_set}
use Rattle.sheet_symbols.proofs.Below.{all, all_below}
use Rattle.sheet_symbols.proofs.Table.{table}

-- the test of the entry of a byte against the code list
right : ℕ → Bool
right byte = eqb (get_or table byte 0) (symbol_set byte)

-- each entry of the table is its set in the code list, or empty where the byte is not listed
pub table_right : (byte : ℕ) → byte < 256 → get_or table byte 0 ≡ symbol_set byte
unfolding right all table symbol_set
table_right byte h = eqb-true (get_or table byte 0) (symbol_set byte) (all_below right 256 refl byte h)

-- the same of the entry at a number that is the byte
pub table_at : (w byte : ℕ) → w ≡ byte → byte < 256 → symbol_set byte ≡ get_or table w 0
table_at w byte e h = rw e (sym (table_right byte h))

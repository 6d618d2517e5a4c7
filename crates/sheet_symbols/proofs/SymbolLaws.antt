-- The answer for a byte from the set that the code list gives it; and the sets that are answered.
-- Assumes nothing.
use mathlib.Core.Bool.{Bool}
use mathlib.Core.Path.{◌≡◌, refl, sym, ap}
use Prim.Native.Nat.{ℕ, zero, suc, ◌<◌, ◌≤◌}
use native.Mathlib.Omega.{arith}
use borrow.Author.Tests.{leb-true}
use lib.Dec.{leb}
use Rattle.std.proofs.Common.{Some, None}
use Rattle.sheet_symbols.specs.Code.{symbol_set}
use Rattle.sheet_symbols.specs.Symbol.{answer, symbol_of}
use Rattle.sheet_symbols.proofs.Below.{all, all_below}

-- no set: no symbol
pub symbol_none : (byte : ℕ) → symbol_set byte ≡ 0 → None ≡ symbol_of byte
unfolding answer symbol_of
symbol_none byte e = sym (ap answer e)

some : (set : ℕ) → (set ≡ 0 → ⊥) → Some set ≡ answer set
unfolding answer
some zero h = absurd (h refl)
some (suc n) h = refl

-- a set: its states
pub symbol_some : (byte set : ℕ) → symbol_set byte ≡ set → (set ≡ 0 → ⊥) → Some set ≡ symbol_of byte
unfolding symbol_of answer
symbol_some byte set e h = rw e (some set h)

-- the test that the set of a byte has no state above T
four : ℕ → Bool
four byte = leb (symbol_set byte) 15

set_most : (byte : ℕ) → byte < 256 → symbol_set byte ≤ 15
unfolding four all symbol_set
set_most byte h = leb-true (symbol_set byte) 15 (all_below four 256 refl byte h)

set_of_lem : (n set : ℕ) → answer n ≡ Some set → (1 ≤ set) × (set ≡ n)
unfolding answer
set_of_lem zero set e = let z : ◌≡◌ {A = ℕ} 0 1 = cc in absurd (omega arith)
set_of_lem (suc n) set e = let z : suc n ≡ set = cc in omega arith

-- a symbol's set is not empty, and has no state but the four bases
pub symbol_set_lem : (byte set : ℕ) → byte < 256 → symbol_of byte ≡ Some set → (1 ≤ set) × (set ≤ 15)
unfolding symbol_of
symbol_set_lem byte set h e = let s = set_of_lem (symbol_set byte) set e in let m = set_most byte h in omega arith

-- The code list at single bytes, by computation: what is a symbol, and what is none.
-- Assumes nothing.
use mathlib.Core.Bool.{Bool}
use mathlib.Core.Path.{◌≡◌, refl, subst, sym}
use Prim.Native.Nat.{ℕ, ◌+◌, ◌-◌, ◌≤◌}
use native.Mathlib.Omega.{arith}
use borrow.Author.Tests.{eqb-true}
use lib.Dec.{eqb}
use Rattle.std.proofs.Common.{Some, None}
use Rattle.sheet_symbols.specs.Code.{symbol_set}
use Rattle.sheet_symbols.specs.Symbol.{symbol_of}
use Rattle.sheet_symbols.proofs.Below.{all, all_below}
use Rattle.sheet_symbols.proofs.SymbolLaws.{symbol_none}

-- R is A or G
pub symbol_r : symbol_of 82 ≡ Some 5
unfolding symbol_of
symbol_r = refl

-- U is T
pub symbol_u : symbol_of 85 ≡ symbol_of 84
unfolding symbol_of
symbol_u = refl

-- J is no symbol
pub symbol_j : symbol_of 74 ≡ None
unfolding symbol_of
symbol_j = refl

-- the byte 0 is no symbol
pub symbol_zero : symbol_of 0 ≡ None
unfolding symbol_of
symbol_zero = refl

-- the test that a letter, counted from a, is not listed
small : ℕ → Bool
small k = eqb (symbol_set (97 + k)) 0

-- no letter from a to z is a symbol
pub symbol_lower : (byte : ℕ) → 97 ≤ byte → byte ≤ 122 → symbol_of byte ≡ None
unfolding small all symbol_set
symbol_lower byte low high =
    let at : 97 + (byte - 97) ≡ byte = omega arith in
    sym
    (symbol_none byte
    (subst (λ (b : ℕ). symbol_set b ≡ 0) at
    (eqb-true (symbol_set (97 + (byte - 97))) 0 (all_below small 26 refl (byte - 97) (omega arith)))))

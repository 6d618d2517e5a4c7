-- A start from its number, case by case.
-- Assumes nothing.
use mathlib.Core.Path.{◌≡◌, sym}
use Prim.Native.Nat.{ℕ}
use borrow.Author.Tests.{eq-eqb, ne_eqb}
use Rattle.answer_codes.specs.Codes.{start_of}
use Rattle.parsimony.proofs.Order.{pick_true, pick_false}
use Rattle.std.specs.Prelude.{None, Some}

-- one number stands for no start
pub start_none : (x : ℕ) → x ≡ 18446744073709551615 → None ≡ start_of x
unfolding start_of
start_none x e = sym (pick_true _ _ (eq-eqb _ _ e))

-- any other is the start
pub start_given : (x : ℕ) → (x ≡ 18446744073709551615 → ⊥) → Some x ≡ start_of x
unfolding start_of
start_given x n = sym (pick_false _ _ (ne_eqb _ _ n))

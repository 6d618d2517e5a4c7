-- The end of a line, byte by byte.
-- Assumes nothing.
use mathlib.Core.Bool.{true, false}
use mathlib.Core.List.{List}
use mathlib.Core.Path.{◌≡◌, sym, ◌∙◌}
use Prim.Native.Nat.{ℕ, ◌+◌, ◌<◌, ◌≤◌}
use borrow.Author.Tests.{eq-eqb, ne_eqb}
use lib.ListN.{length, get_or}
use Rattle.std.proofs.Common.{Some, None}
use Rattle.sheet_lines.specs.Bytes.{within}
use Rattle.sheet_lines.specs.Line.{end_in, line_end}
use Rattle.parsimony.proofs.Order.{pick_true, pick_false}
use Rattle.sheet_lines.proofs.ByteLaws.{drop_below, drop_past}

-- a byte 10: the end
pub line_stop : (sheet : List ℕ) (i : ℕ) → i < length sheet → get_or sheet i 0 ≡ 10 → Some i ≡ line_end sheet i
unfolding line_end end_in
line_stop sheet i h e = rw (drop_below sheet i h) (sym (pick_true _ _ (eq-eqb _ _ e)))

-- a byte from 32 to 126: the line goes on
pub line_on : (sheet : List ℕ) (i : ℕ) → i < length sheet → (get_or sheet i 0 ≡ 10 → ⊥)
    → within 32 126 (get_or sheet i 0) ≡ true → line_end sheet (i + 1) ≡ line_end sheet i
unfolding line_end end_in
line_on sheet i h n e = rw (drop_below sheet i h) (sym (pick_false _ _ (ne_eqb _ _ n) ∙ pick_true _ _ e))

-- another byte: no line
pub line_bad : (sheet : List ℕ) (i : ℕ) → i < length sheet → (get_or sheet i 0 ≡ 10 → ⊥)
    → within 32 126 (get_or sheet i 0) ≡ false → None ≡ line_end sheet i
unfolding line_end end_in
line_bad sheet i h n e = rw (drop_below sheet i h) (sym (pick_false _ _ (ne_eqb _ _ n) ∙ pick_false _ _ e))

-- nothing left: no line
pub line_past : (sheet : List ℕ) (i : ℕ) → length sheet ≤ i → None ≡ line_end sheet i
unfolding line_end end_in
line_past sheet i h = rw (drop_past sheet i h)

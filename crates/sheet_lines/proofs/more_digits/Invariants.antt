-- `more_digits` meets its contract.
-- The invariant: the value is at most 655,359, and it and the digits from i on make the number.
-- Assumes nothing.
use mathlib.Core.Path.{◌≡◌}
use Prim.Native.Nat.{◌≤◌}
use Rattle.sheet_lines.specs.Number.{digits_of}
use Rattle.sheet_lines.proofs.more_digits.Given as goal

abbrev pub invariant-loop-i : goal.invariant-loop-i
invariant-loop-i l = (l.value ≤ 655359) × (digits_of l.most l.sheet l.value l.i ≡ digits_of l.most l.sheet l.start l.at)

-- `line_end` meets its contract.
-- The invariant: the line from i on ends where the line from the start on ends.
-- Assumes nothing.
use mathlib.Core.Path.{◌≡◌}
use Rattle.sheet_lines.specs.Line.{line_end}
use Rattle.sheet_lines.proofs.line_end.Given as goal

abbrev pub invariant-loop-i : goal.invariant-loop-i
invariant-loop-i l = line_end l.sheet l.i ≡ line_end l.sheet l.at

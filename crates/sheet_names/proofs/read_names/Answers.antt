-- `read_names` meets its contract. The invariant: i names are read, and their places stand in the list.
-- Assumes nothing.
use mathlib.Core.Path.{sym}
use native.Mathlib.Omega.{arith}
use Rattle.std.proofs.Common.{rules}
use Rattle.sheet_lines.proofs.Filling.{going_on, going_stop, going_end}
use Rattle.sheet_lines.specs.Section.{placed}
use Rattle.sheet_names.proofs.read_names.Goals as goal

pub returns-in_err-next : goal.returns-in_err-next
unfolding placed
returns-in_err-next c =
    going_stop c.loop-i.invariant _ (search rules) c.loop-i-test.true (sym c.in_err-next.ensures)

pub loop-i-preserved : goal.loop-i-preserved
unfolding placed
loop-i-preserved c = going_on c.loop-i.invariant _ _ (omega arith) c.loop-i-test.true (sym c.in_ok-next.ensures)

pub returns : goal.returns
returns c = going_end c.loop-i.invariant c.loop-i-test.false

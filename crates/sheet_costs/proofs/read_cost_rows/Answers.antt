-- `read_cost_rows` meets its contract. The invariant: x rows are read, and stand in the table.
-- Assumes nothing.
use native.Mathlib.Omega.{arith}
use Rattle.std.proofs.Common.{rules}
use Rattle.sheet_lines.proofs.Filling.{going_on, going_stop, going_end, going_taken}
use Rattle.sheet_costs.specs.Costs.{cost_item}
use Rattle.sheet_costs.proofs.CostSteps.{judged_row}
use Rattle.sheet_costs.proofs.read_cost_rows.Goals as goal

pub returns-in_err-row : goal.returns-in_err-row
unfolding cost_item
returns-in_err-row c =
    going_stop c.loop-x.invariant _ (search rules) c.loop-x-test.true
    (judged_row _ _ _ _ _ (going_taken c.loop-x.invariant c.loop-x-test.true) c.in_err-row.ensures)

pub loop-x-preserved : goal.loop-x-preserved
unfolding cost_item
loop-x-preserved c =
    going_on c.loop-x.invariant _ _ (omega arith) c.loop-x-test.true
    (judged_row _ _ _ _ _ (going_taken c.loop-x.invariant c.loop-x-test.true) c.in_ok-row.ensures)

pub returns : goal.returns
returns c = going_end c.loop-x.invariant c.loop-x-test.false

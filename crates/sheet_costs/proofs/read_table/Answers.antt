-- `read_table` meets its contract, by the count.
-- Assumes nothing.
use Rattle.sheet_costs.proofs.CostSteps.{table_none, table_four}
use Rattle.sheet_costs.proofs.read_table.Goals as goal

pub returns-then-k-eq0 : goal.returns-then-k-eq0
returns-then-k-eq0 c = table_none _ _ _ _ c.if-k-eq0.true c.put_unit.ensures

pub returns : goal.returns
returns c = table_four _ _ _ _ c.if-k-eq0.false c.read_cost_rows.ensures

-- `read_cost_rows` meets its contract. The invariant: x rows are read, and stand in the table.
-- Assumes nothing.
use Prim.Native.Nat.{◌+◌}
use Rattle.sheet_lines.proofs.Filling.{Going}
use Rattle.sheet_costs.specs.Costs.{cost_judge}
use Rattle.sheet_costs.proofs.read_cost_rows.Given as goal

abbrev pub invariant-loop-x : goal.invariant-loop-x
invariant-loop-x l = Going (cost_judge l.sheet) 4 l.at l.line l.initial.table l.x l.place (l.line + l.x) l.table

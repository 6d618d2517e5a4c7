-- `read_from_columns` meets its contract: the cells, and then the rest.
-- Assumes nothing.
use mathlib.Core.Path.{sym}
use Rattle.std.proofs.Common.{rules}
use Rattle.sheet_sections.proofs.SheetSteps.{rest_no_cells, rest_cells}
use Rattle.sheet_sections.proofs.read_from_columns.Goals as goal

pub returns-in_err-matrix : goal.returns-in_err-matrix
returns-in_err-matrix c = rest_no_cells _ _ _ _ _ (sym c.in_err-matrix.ensures) (search rules)

pub returns : goal.returns
returns c = rest_cells _ _ _ _ _ _ _ (sym c.in_ok-matrix.ensures) c.read_from_costs.ensures

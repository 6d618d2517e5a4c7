-- `flat_costs` meets its contract, entry by entry.
-- Assumes nothing.
use Rattle.sheet_costs.proofs.FlatLaws.{sixteen, flat_list}
use Rattle.sheet_costs.proofs.flat_costs.Goals as goal

pub returns : goal.returns
unfolding sixteen
returns c = flat_list _

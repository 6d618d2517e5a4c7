-- `row_at` meets its contract: the row stands among the rows.
-- Assumes nothing.
use Rattle.std.proofs.Common.{◌*◌, arith}
use Rattle.parsimony.proofs.SliceLaws.{part_length, part_entry}
use Rattle.row_step.proofs.row_at.Goals as goal

pub returns-clause-size : goal.returns-clause-size
returns-clause-size c = part_length _ _ _ c.requires

pub returns-clause-row : goal.returns-clause-row
returns-clause-row c =
    let size = part_length c.args.rows.now (c.args.u * c.args.s) c.args.s c.requires in
    λ x h. part_entry _ _ _ x (omega arith)

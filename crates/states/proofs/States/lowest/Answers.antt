-- The lowest member is the number of trailing zeros.
-- Assumes nothing.
use Rattle.std.proofs.Common.{arith}
use Rattle.parsimony.proofs.StateCountLaws.{lowest_first}
use Rattle.parsimony.specs.Limits.{cell_bits}
use Rattle.states.proofs.States.lowest.Goals as goal

pub returns : goal.returns
returns c = lowest_first cell_bits c.args.self.0 (omega arith) c.requires

-- The ones of a cell are its states.
-- Assumes nothing.
use Rattle.std.proofs.Common.{sym, arith}
use Rattle.parsimony.proofs.StateCountLaws.{size_ones}
use Rattle.parsimony.specs.Limits.{cell_bits}
use Rattle.states.proofs.States.count.Goals as goal

pub returns : goal.returns
returns c = sym (size_ones cell_bits c.args.self.0 (omega arith))

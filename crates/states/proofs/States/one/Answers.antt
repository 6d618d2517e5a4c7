-- A one shifted by the state is its set.
-- Assumes nothing.
use Rattle.std.proofs.Common.{arith}
use Rattle.states.proofs.Words.{shifted_one}
use Rattle.parsimony.specs.Limits.{cell_bits}
use Rattle.states.proofs.States.one.Goals as goal

pub returns : goal.returns
returns c = shifted_one cell_bits c.args.x (omega (arith, c.requires))

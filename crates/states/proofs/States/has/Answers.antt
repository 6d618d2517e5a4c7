-- The bit that is shifted down tells the member.
-- Assumes nothing.
use Rattle.states.proofs.Words.{shifted_tells}
use Rattle.states.proofs.States.has.Goals as goal

pub returns : goal.returns
returns c = shifted_tells c.args.self.0 c.args.x

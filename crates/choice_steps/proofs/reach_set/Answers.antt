-- `reach_set` meets its contract: the least of the sums are reached by the states of the set.
-- Assumes nothing.
use Rattle.std.proofs.Common.{◌∙◌, arith}
use Rattle.choice_steps.proofs.SumLaws.{reached_is}
use Rattle.choice_steps.proofs.reach_set.Goals as goal

pub returns : goal.returns
returns c =
    c.least_set.ensures
    ∙ reached_is _ _ _ _ _ c.row.ensures.cheap.count c.row.ensures.row c.requires.states.1 c.sums-sums.ensures.each
    c.sums-sums.ensures.room (omega (arith, c.requires.states.0))

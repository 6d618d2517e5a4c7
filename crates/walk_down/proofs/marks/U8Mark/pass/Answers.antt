-- `pass` of states meets its contract: the choosing step gives a state, which is small.
-- Assumes nothing.
use Rattle.std.proofs.Common.{ℕ, ◌∙◌, ap, arith}
use Rattle.parsimony.specs.Column.{cost_at}
use Rattle.parsimony.specs.Written.{entries}
use Rattle.parsimony.proofs.TieLaws.{in_use}
use Rattle.row_step.specs.Lane.{lane}
use Rattle.choice_steps.specs.Marks.{chosen}
use Rattle.walk_down.proofs.marks.U8Mark.pass.Goals as goal

pub overflow_cast-result : goal.overflow_cast-result
overflow_cast-result c =
    let costs = c.args.costs.now in
    let s = costs.s in
    let f : ℕ → ℕ = lane (cost_at s costs.list.now c.from.result) (entries c.args.row.now) in
    let state = (in_use.ties s c.from.result f (omega (arith, costs.states.0))).within in
    omega (arith, c.choose.ensures, state, costs.states.1)

pub returns : goal.returns
unfolding chosen
returns c =
    c.choose.ensures
    ∙ ap (chosen c.args.costs.now.s (cost_at c.args.costs.now.s c.args.costs.now.list.now)
    (entries c.args.row.now)) c.from.ensures

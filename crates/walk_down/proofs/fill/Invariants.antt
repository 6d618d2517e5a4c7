-- `fill` meets its contract. The loop's invariant: the root has its start, and the children of each node from v on have
-- their marks.
-- Assumes nothing.
use Rattle.std.proofs.Common.{map}
use Rattle.parsimony.specs.Table.{kids_at}
use Rattle.promises.specs.Input.{Input, input_of, nodes}
use Rattle.choice_steps.specs.Marks.{gives}
use Rattle.walk_down.proofs.DownSteps.{Descending}
use Rattle.walk_down.proofs.fill.Given as goal

abbrev pub invariant-loop-v : goal.invariant-loop-v
invariant-loop-v g l =
    let I : Input = input_of l.rows.table in
    Descending (nodes I) (kids_at I.left I.right) (gives g.M.Mark.passed I l.rows.entries.now)
    (g.M.Mark.number l.fn.start) l.v (map g.M.Mark.number l.initial.marks) (map g.M.Mark.number l.marks)

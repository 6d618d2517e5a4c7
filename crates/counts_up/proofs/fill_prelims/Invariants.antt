-- `fill_prelims` meets its contract. The loop's invariant: the sets of the nodes below v, and nothing else, are
-- written, and the changes counted at these nodes are summed.
-- Assumes nothing.
use Rattle.std.proofs.Common.{◌≡◌}
use Rattle.promises.specs.Input.{Input, input_of}
use Rattle.counts_up.proofs.CountSteps.{SetsTo, changes_to}
use Rattle.counts_up.proofs.fill_prelims.Given as goal

abbrev pub invariant-loop-v : goal.invariant-loop-v
invariant-loop-v l =
    let I : Input = input_of l.table in
    SetsTo I.left I.right I.c I.cells l.j l.v l.initial.sets l.sets
    × (l.changes ≡ changes_to I.left I.right I.c I.cells l.j l.v)

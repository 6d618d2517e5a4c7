-- `members_open` meets its contract. The loop's invariant: no member below x is barred at the root.
-- Assumes nothing.
use Rattle.promises.specs.Input.{input_of}
use Rattle.call_starts.proofs.StartLaws.{OpenBelow}
use Rattle.call_starts.proofs.members_open.Given as goal

abbrev pub invariant-loop-x : goal.invariant-loop-x
invariant-loop-x l = OpenBelow (input_of l.sound.table) l.j l.set l.x

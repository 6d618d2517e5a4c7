-- `members_open` meets its contract: each turn looks at one state more.
-- Assumes nothing.
use Rattle.std.proofs.Common.{arith}
use Rattle.parsimony.proofs.TellsLaws.{told_no, unless_yes}
use Rattle.promises.proofs.SoundLaws.{allowed_known}
use Rattle.call_starts.proofs.StartLaws.{open_none, open_more, open_other, open_all}
use Rattle.call_starts.proofs.members_open.Goals.{else-has-via-then-has+else-not-root_open, else-has-via-else-has}
use Rattle.call_starts.proofs.members_open.Goals as goal

pub loop-x-init : goal.loop-x-init
loop-x-init c = open_none _ _ _

pub has-requires : goal.has-requires
has-requires c = omega (arith, (allowed_known _ c.args.sound.now.allowed).costs.most)

pub loop-x-preserved : goal.loop-x-preserved
loop-x-preserved c =
    let open_before = c.loop-x.invariant in
    elim c.else-has.branch [
      | else-has-via-then-has+else-not-root_open w ↦ open_more _ _ _ _ open_before (unless_yes w.root_open.ensures w.if-not-root_open.false-raw)
      | else-has-via-else-has w ↦ open_other _ _ _ _ open_before (told_no c.has.ensures w.if-has.false)
    ]

pub returns : goal.returns
returns c = open_all _ _ _ _ _ c.requires.1 c.loop-x-test.false c.loop-x.invariant

-- `print_page` meets its contract: each turn puts the line of one column.
-- Assumes nothing.
use Rattle.std.proofs.Common.{arith, sym, subst}
use Rattle.report_pages.proofs.PrintSteps.{printable_nodes}
use Rattle.report_pages.proofs.PageSteps.{Turn, turn_none, turn_printable, turn_score, turn_more}
use Rattle.report_pages.proofs.RoomLaws.{ample_still, same_still, same_then}
use Rattle.report_pages.proofs.ReadLaws.{as_printable_from}
use Rattle.report_pages.proofs.print_page.Goals as goal

pub loop-next-init : goal.loop-next-init
loop-next-init c =
    let ready = as_printable_from _ _ _ _ _ c.args.s.now.read c.requires.inside in
    (same_still _, subst (Turn _ _ _ _ _ _) (sym c.clear.ensures) (turn_none _ _ _ _ _ _ _ _ ready c.args.from.few))

pub put_line-score-requires-clause-room : goal.put_line-score-requires-clause-room
put_line-score-requires-clause-room c = ample_still _ _ c.requires.room c.loop-next.invariant.0

pub overflow_add-total : goal.overflow_add-total
overflow_add-total c =
    let ready = as_printable_from _ _ _ _ _ c.args.s.now.read c.requires.inside in
    let turn = c.loop-next.invariant.1 in
    let few = turn.few in
    let j = (printable_nodes _ _ _ _ _ _ (turn_printable _ _ _ _ _ _ _ _ _ _ _ ready turn c.loop-next-test.true)).1 in
    let small = turn_score _ _ _ _ _ _ _ _ _ _ _ ready turn c.loop-next-test.true _ _ c.put_line-score.ensures.line in
    record { fits = omega arith }

pub loop-next-preserved : goal.loop-next-preserved
loop-next-preserved c =
    let ready = as_printable_from _ _ _ _ _ c.args.s.now.read c.requires.inside in (
      same_then _ _ _ c.loop-next.invariant.0 c.put_line-score.ensures.room,
      turn_more _ _ _ _ _ _ _ _ _ _ _ ready c.loop-next.invariant.1 c.loop-next-test.true _ _
          c.put_line-score.ensures.line,
    )

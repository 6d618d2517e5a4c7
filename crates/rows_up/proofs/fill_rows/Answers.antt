-- `fill_rows` meets its contract: each turn writes one row more.
-- Assumes nothing.
use Rattle.std.proofs.Common.{length, ◌+◌, ◌*◌, ◌≤◌, ◌++◌, drop, length-take-le, ap₂, sym, ◌∙◌, subst, arith}
use Rattle.parsimony.proofs.SliceLaws.{row_inside}
use Rattle.parsimony.specs.Row.{row}
use Rattle.promises.specs.Input.{input_of, column, nodes}
use Rattle.rows_up.proofs.RoomLaws.{RowsTo, room_more}
use Rattle.rows_up.proofs.fill_rows.Goals as goal

pub loop-v-preserved : goal.loop-v-preserved
loop-v-preserved c =
    let I = input_of c.args.sound.now.table in
    let turn = c.loop-v in
    let parts = c.split_at_mut-below.ensures in
    let last = row_inside turn.v (nodes I) I.s c.loop-v-test.true in
    let room : turn.v * I.s + I.s ≤ length turn.rows = omega (arith, turn.auto.rows, c.requires.room) in
    subst (λ l. RowsTo (row (column I c.args.j)) I.s (turn.v + 1) c.args.rows.now l)
    (sym (ap₂ (λ f r. f ++ (c.node_row.new.own ++ drop I.s r)) parts.front parts.back))
    (room_more turn.rows c.node_row.new.own I.s turn.v room
    (c.node_row.auto.own ∙ length-take-le I.s c.split_at_mut-below.result.1.now (omega (arith, parts.back_len))) (row (column I c.args.j)) c.args.rows.now turn.invariant c.node_row.ensures)

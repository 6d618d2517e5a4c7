-- `fill_rows` meets its contract. The loop's invariant: the rows of the nodes below v, and nothing else, are written.
-- Assumes nothing.
use Rattle.parsimony.specs.Row.{row}
use Rattle.promises.specs.Input.{input_of, column}
use Rattle.rows_up.proofs.RoomLaws.{RowsTo}
use Rattle.rows_up.proofs.fill_rows.Given as goal

abbrev pub invariant-loop-v : goal.invariant-loop-v
invariant-loop-v l =
    RowsTo (row (column (input_of l.sound.table) l.j)) l.sound.table.s l.v l.initial.rows l.rows

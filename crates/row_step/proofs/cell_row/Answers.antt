-- `cell_row` meets its contract: each turn writes one entry more.
-- Assumes nothing.
use Rattle.std.proofs.Common.{◌∙◌, arith}
use Rattle.parsimony.specs.Column.{cell_entry}
use Rattle.parsimony.proofs.SliceLaws.{filled_more}
use Rattle.row_step.proofs.CellLaws.{cell_yes, cell_no}
use Rattle.row_step.proofs.cell_row.Goals.{then-has, else-has}
use Rattle.row_step.proofs.cell_row.Goals as goal

pub loop-x-preserved : goal.loop-x-preserved
loop-x-preserved c =
    let turn = c.loop-x in
    filled_more (cell_entry c.args.cell) _ _ _ (omega (arith, turn.auto.row, c.loop-x-test.true))
    (elim c.if-has.branch [
      | then-has w ↦ w.entry-is ∙ cell_yes _ turn.x _ c.has.ensures w.if-has.true
      | else-has w ↦ w.entry-is ∙ cell_no _ turn.x _ c.has.ensures w.if-has.false
    ])
    turn.invariant

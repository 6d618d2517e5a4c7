-- `rows_open` meets its contract: each turn looks at one row more.
-- Assumes nothing.
use Rattle.std.proofs.Common.{below_more}
use Rattle.parsimony.proofs.TellsLaws.{all_no, told_yes, told_no, unless_yes, unless_no}
use Rattle.table_handed.proofs.HandedLaws.{row_tells}
use Rattle.table_handed.proofs.rows_open.Goals as goal

pub returns-then-not-row_open : goal.returns-then-not-row_open
returns-then-not-row_open c =
    all_no _ c.loop-i-test.true
    (unless_no (row_tells c.args.entries.now c.loop-i.i c.args.n c.args.s c.requires.1 c.loop-i-test.true c.row_open.ensures)
    c.if-not-row_open.true-raw)

pub loop-i-preserved : goal.loop-i-preserved
loop-i-preserved c =
    below_more _ _ c.loop-i.invariant
    (unless_yes (row_tells c.args.entries.now c.loop-i.i c.args.n c.args.s c.requires.1 c.loop-i-test.true c.row_open.ensures)
    c.if-not-row_open.false-raw)

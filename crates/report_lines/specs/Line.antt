-- A column's line: its number, its score, its quiet mark, the number of nodes whose set has one state, and the labels.
-- Assumes nothing.
use Rattle.std.specs.Prelude.{List, [], ◌∷◌, ◌++◌, ℕ}
use Rattle.parsimony.specs.Column.{column_of}
use Rattle.parsimony.specs.Label.{label}
use Rattle.parsimony.specs.NodeSet.{sets}
use Rattle.parsimony.specs.Row.{score}
use Rattle.promises.specs.Input.{Input, nodes, column}
use Rattle.report_text.specs.Decimal.{decimal}
use Rattle.report_marks.specs.Letters.{letters}
use Rattle.report_marks.specs.OneState.{one_states}
use Rattle.report_marks.specs.Quiet.{quiet_mark}

-- a number and the space after it
unfoldable pub field : ℕ → List ℕ
unfolding decimal
field n = decimal n ++ (32 ∷ [])

-- the five parts of a column's line, parted by one space; the letters stand without spaces, and there is no line end
unfoldable pub line_text : ℕ → ℕ → ℕ → ℕ → List ℕ → List ℕ
unfolding field
line_text number score quiet ones letters = field number ++ field score ++ field quiet ++ field ones ++ letters

-- the line of a table with one column, which has this number in the sheet
unfoldable pub column_line : Input → ℕ → List ℕ
unfolding line_text score quiet_mark one_states sets letters label column_of
column_line I number =
    line_text number (score (column I 0)) (quiet_mark I.cells) (one_states I.s (sets (column I 0)) (nodes I))
    (letters (label (column I 0)) (nodes I))

-- What a line's writer promises.
-- Assumes nothing.
use Rattle.std.specs.Prelude.{List, ◌≡◌, ℕ}
use Rattle.parsimony.specs.Row.{score}
use Rattle.promises.specs.Input.{Input, column}
use Rattle.promises.specs.CallWrites.{WorkWritten}
use Rattle.report_text.specs.Puts.{Puts}
use Rattle.report_text.specs.declared.Text.{Text}
use Rattle.report_lines.specs.Line.{column_line}

-- the column's line is put; k is the column's score, and the lists of the scorer hold its work
pub record Reported (I : Input) (number : ℕ) (states sets rows : List ℕ) (line : Text) (k : ℕ)
    (states' sets' rows' : List ℕ) (line' : Text) : Type 0 where
  pub text : Puts (column_line I number) line line'
  pub score : k ≡ score (column I 0)
  pub worked : WorkWritten I 0 states sets rows k states' sets' rows'

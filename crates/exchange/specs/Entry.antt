-- The host's entry: a sheet's bytes and a column number go in, that column's line comes out, or a refusal.
-- Assumes nothing.
use Rattle.std.specs.Prelude.{List, ◌++◌, ◌≡◌, ℕ, ltb, length, drop}
use Rattle.parsimony.specs.Test.{pick}
use Rattle.answer_codes.specs.Codes.{packed}
use Rattle.sheet_lines.specs.Fault.{fault_number, fault_line}
use Rattle.sheet_lines.specs.declared.Fault.{Fault}
use Rattle.report_pages.specs.SheetLine.{on_judged, line_in}
use Rattle.sheet.specs.Judge.{Contents, judge}

-- what the entry gives: a line, or the number of a refusal and what it carries
pub data Outcome : Type 0 where
  done : List ℕ → Outcome
  refused : ℕ → ℕ → Outcome

-- a fault of the sheet: its number and its line
abbrev pub faulted : Fault → Outcome
faulted f = refused (fault_number f) (fault_line f)

-- a line where so many bytes of room are lent: ROOM, 8, where they are too few
unfoldable pub line_given : ℕ → List ℕ → Outcome
unfolding pick
line_given room line = pick (ltb room (length line)) (refused 8 0) (done line)

-- a column of what a sheet holds: WHICH, 6, where it has none of that number
unfoldable pub column_given : List ℕ → ℕ → ℕ → Contents → Outcome
unfolding pick line_given line_in
column_given sheet j room has = pick (ltb j has.columns) (line_given room (line_in sheet has j)) (refused 6 0)

-- The first fault in the file, then WHICH, then ROOM.
unfoldable pub outcome : List ℕ → ℕ → ℕ → Outcome
unfolding on_judged column_given judge
outcome sheet j room = on_judged (judge sheet) faulted (column_given sheet j room)

-- as one number: the low 8 bits the number, above them the bytes written when done, or what is carried
unfoldable pub outcome_code : Outcome → ℕ
outcome_code (done line) = packed 0 (length line)
outcome_code (refused number carried) = packed number carried

-- the output afterwards: the line and all beyond it as before; a refused call leaves it as it was
unfoldable pub leaves : Outcome → List ℕ → List ℕ
leaves (done line) out = line ++ drop (length line) out
leaves (refused number carried) out = out

-- the entry's promise
pub record Entered (sheet : List ℕ) (j : ℕ) (out : List ℕ) (code : ℕ) (out' : List ℕ) : Type 0 where
  pub answer : code ≡ outcome_code (outcome sheet j (length out))
  pub output : out' ≡ leaves (outcome sheet j (length out)) out

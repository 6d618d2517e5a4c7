-- The lines of some columns of a sheet, one after the other, each with its line end, and their scores together.
-- Assumes nothing.
use Rattle.std.specs.Prelude.{List, [], ◌∷◌, ◌++◌, ◌≡◌, ℕ, zero, suc, ◌+◌, ◌<◌, ◌≤◌}
use Rattle.parsimony.specs.Sum.{sum}
use Rattle.report_pages.specs.SheetLine.{line_in, score_in, IsRead}
use Rattle.sheet.specs.Judge.{Contents, sound, judge}
use Rattle.sheet.specs.declared.Sheet.{Sheet}
use Rattle.report_text.specs.Puts.{Puts, cleared}
use Rattle.report_text.specs.declared.Text.{Text}

-- the line of column j with its line end
unfoldable pub full_line : List ℕ → Contents → ℕ → List ℕ
unfolding line_in
full_line sheet has j = line_in sheet has j ++ (10 ∷ [])

-- the lines of k columns from the first on
unfoldable pub lines_in : List ℕ → Contents → ℕ → ℕ → List ℕ
unfolding full_line
lines_in sheet has first zero = []
lines_in sheet has first (suc k) = lines_in sheet has first k ++ full_line sheet has (first + k)

-- their scores together
unfoldable pub scores_in : List ℕ → Contents → ℕ → ℕ → ℕ
unfolding sum score_in
scores_in sheet has first k = sum (λ i. score_in sheet has (first + i)) k

-- the line of column j and its line end are put, and k is the column's score
pub record LineOf (sheet : List ℕ) (j : ℕ) (page page' : Text) (k : ℕ) : Type 0 where
  pub text : (has : Contents) → judge sheet ≡ sound has → Puts (full_line sheet has j) page page'
  pub score : (has : Contents) → judge sheet ≡ sound has → k ≡ score_in sheet has j

-- the lines of the columns from the first up to next are put into the page that had its text taken away, and all is
-- the total with their scores added
pub record Lines (sheet : List ℕ) (has : Contents) (first total next all : ℕ) (page page' : Text) : Type 0 where
  pub k : ℕ
  pub after : next ≡ first + k
  pub inside : next ≤ has.columns
  pub text : Puts (lines_in sheet has first k) (cleared page) page'
  pub added : all ≡ total + scores_in sheet has first k

-- the same of whatever the sheet holds; where there is a column left, at least one line is on the page
pub record PageOf (sheet : List ℕ) (first total next all : ℕ) (page page' : Text) : Type 0 where
  pub lines : (has : Contents) → judge sheet ≡ sound has → Lines sheet has first total next all page page'
  pub some : (has : Contents) → judge sheet ≡ sound has → first < has.columns → first < next

-- a sheet that has been read may be printed from a column on
pub record PrintableFrom (sheet : List ℕ) (s : Sheet) (costs left right : List ℕ) (first : ℕ) : Type 0 where
  pub has : Contents
  pub read : IsRead sheet s costs left right has
  pub low : first ≤ has.columns

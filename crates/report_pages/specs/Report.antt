-- The report of a sheet, whole, and the pages that it is printed on.
-- Assumes nothing.
use Rattle.std.specs.Prelude.{List, [], ◌∷◌, ◌++◌, ◌≡◌, ℕ}
use Rattle.sheet_lines.specs.Fault.{fault_number, fault_line}
use Rattle.report_pages.specs.Page.{lines_in, scores_in, PageOf}
use Rattle.report_pages.specs.SheetLine.{on_judged}
use Rattle.report_lines.specs.Frame.{columns_line, total_line, refused_line}
use Rattle.sheet.specs.Judge.{Contents, judge}
use Rattle.report_text.specs.Puts.{text_in}
use Rattle.report_text.specs.declared.Text.{Text}

-- the report of what a sheet holds: the number of columns, the line of each column, the total
unfoldable pub report_in : List ℕ → Contents → List ℕ
unfolding lines_in scores_in columns_line total_line
report_in sheet has =
    columns_line has.columns
    ++ lines_in sheet has 0 has.columns
    ++ total_line (scores_in sheet has 0 has.columns)

-- the report of a sheet: of what it holds, or the one line of its fault
unfoldable pub report_of : List ℕ → List ℕ
unfolding on_judged report_in refused_line
report_of sheet = on_judged (judge sheet) (λ f. refused_line (fault_number f) (fault_line f)) (report_in sheet)

-- a page as it was before and after it was printed, the column to go on from, and the scores up to there
pub record Page : Type 0 where
  pub before : Text
  pub after : Text
  pub next : ℕ
  pub total : ℕ

-- the pages are printed one after the other, each from where the one before it ended, from column first with the scores
-- before it together being total, up to column next with the scores together being all
abbrev pub PagesFrom : List Page → List ℕ → ℕ → ℕ → ℕ → ℕ → Type 0
PagesFrom [] sheet first total next all = (next ≡ first) × (all ≡ total)
PagesFrom (p ∷ ps) sheet first total next all =
    PageOf sheet first total p.next p.total p.before p.after × PagesFrom ps sheet p.next p.total next all

-- what the pages have, one after the other
unfoldable pub printed : List Page → List ℕ
printed [] = []
printed (p ∷ ps) = text_in p.after ++ printed ps

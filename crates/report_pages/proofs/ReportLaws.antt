-- What is printed, the first line, the pages one after the other and the last line, is the report.
-- Assumes nothing.
use mathlib.Core.List.{List, [], ◌∷◌, ◌++◌, append_assoc, append-nil}
use mathlib.Core.Path.{◌≡◌, refl, ap, ap₂, sym, ◌∙◌}
use Prim.Native.Nat.{ℕ, zero, suc, ◌+◌}
use native.Mathlib.Nat.{add_assoc, add-suc, add-zero, zero-add}
use native.Mathlib.Omega.{arith}
use Rattle.sheet_lines.specs.Fault.{fault_number, fault_line}
use Rattle.sheet_lines.specs.declared.Fault.{Fault}
use Rattle.parsimony.specs.Sum.{sum}
use Rattle.report_pages.specs.Page.{full_line, lines_in, scores_in, Lines}
use Rattle.report_pages.specs.Report.{report_in, report_of, Page, PagesFrom, printed}
use Rattle.report_pages.specs.SheetLine.{score_in, on_judged}
use Rattle.report_lines.specs.Frame.{columns_line, total_line, refused_line}
use Rattle.sheet.specs.Judge.{Contents, sound, faulty, judge}

module _ (sheet : List ℕ) (has : Contents) where
  -- the lines of some columns and of those after them are the lines of all
  pub lines_join : (first k m : ℕ) → lines_in sheet has first k ++ lines_in sheet has (first + k) m
      ≡ lines_in sheet has first (k + m)
  unfolding lines_in
  lines_join first k zero =
      append-nil (lines_in sheet has first k) ∙ ap (lines_in sheet has first) (sym (add-zero k))
  lines_join first k (suc m) =
      sym (append_assoc (lines_in sheet has first k) (lines_in sheet has (first + k) m)
      (full_line sheet has (first + k + m)))
      ∙ ap₂ (λ l j. l ++ full_line sheet has j) (lines_join first k m) (add_assoc first k m)
      ∙ ap (lines_in sheet has first) (sym (add-suc k m))

  -- and so are their scores together
  pub scores_join : (first k m : ℕ) → scores_in sheet has first k + scores_in sheet has (first + k) m
      ≡ scores_in sheet has first (k + m)
  unfolding scores_in sum
  scores_join first k zero =
      let same : scores_in sheet has first (k + 0)
      ≡ scores_in sheet has first k = ap (scores_in sheet has first) (add-zero k) in
      omega arith
  scores_join first k (suc m) =
      let rest = scores_join first k m in
      let here : score_in sheet has (first + k + m) ≡ score_in sheet has (first + (k + m)) =
      ap (score_in sheet has) (add_assoc first k m) in
      let all : scores_in sheet has first (k + suc m) ≡ scores_in sheet has first (suc (k + m)) =
      ap (scores_in sheet has first) (add-suc k m) in
      omega arith

  module _ (is : judge sheet ≡ sound has) where
    -- pages printed one after the other have the lines of their columns, and add their scores
    pub pages_lines : (ps : List Page) (first total next all : ℕ) → PagesFrom ps sheet first total next all
        → (k : ℕ) × (next ≡ first + k) × (printed ps ≡ lines_in sheet has first k)
        × (all ≡ total + scores_in sheet has first k)
    unfolding printed lines_in scores_in sum
    pages_lines [] first total next all (here, same) =
        (0, here ∙ sym (add-zero first), refl, same ∙ sym (add-zero total))
    pages_lines (p ∷ ps) first total next all (page, more) =
        let one : Lines sheet has first total p.next p.total p.before p.after = page.lines has is in
        let (m, after, text, added) = pages_lines ps p.next p.total next all more in
        let from = one.after in
        let sums = one.added in
        let join = scores_join first one.k m in
        let scores : scores_in sheet has p.next m ≡ scores_in sheet has (first + one.k) m =
        ap (λ j. scores_in sheet has j m) from in (
          one.k + m,
          omega arith,
          ap₂ (λ l r. l ++ r) one.text.text (text ∙ ap (λ j. lines_in sheet has j m) from) ∙ lines_join first one.k m,
          omega arith,
        )

    -- The first line, the pages from the first column to the last, and the line of the total are the report.
    pub report_printed : (ps : List Page) (all : ℕ) → PagesFrom ps sheet 0 0 has.columns all
        → columns_line has.columns ++ printed ps ++ total_line all ≡ report_of sheet
    unfolding report_of report_in on_judged
    report_printed ps all pages =
        let (k, after, text, added) = pages_lines ps 0 0 has.columns all pages in
        let same : k ≡ has.columns = omega arith in
        ap₂ (λ l n. columns_line has.columns ++ l ++ total_line n) (text ∙ ap (lines_in sheet has 0) same)
        (added ∙ zero-add _ ∙ ap (scores_in sheet has 0) same)
        ∙ ap (λ j. on_judged j (λ f. refused_line (fault_number f) (fault_line f)) (report_in sheet)) (sym is)

-- The report of a sheet at fault is the line of its fault.
pub report_refused : (sheet : List ℕ) (f : Fault) → judge sheet ≡ faulty f
    → refused_line (fault_number f) (fault_line f) ≡ report_of sheet
unfolding report_of on_judged
report_refused sheet f is =
    ap (λ j. on_judged j (λ f. refused_line (fault_number f) (fault_line f)) (report_in sheet)) (sym is)

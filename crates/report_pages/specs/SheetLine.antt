-- The line of a column of a sheet.
-- Assumes nothing.
use Rattle.std.specs.Prelude.{List, ◌≡◌, ℕ, ◌<◌, take}
use Rattle.parsimony.specs.Row.{score}
use Rattle.promises.specs.Input.{column}
use Rattle.sheet_lines.specs.declared.Fault.{Fault}
use Rattle.sheet_tips.specs.Nodes.{lefts, rights}
use Rattle.sheet_tips.specs.Vine.{vine_nodes}
use Rattle.report_text.specs.Puts.{Puts}
use Rattle.report_text.specs.declared.Text.{Text}
use Rattle.report_lines.specs.Line.{column_line}
use Rattle.sheet.specs.Judge.{Contents, Judged, sound, faulty, judge}
use Rattle.sheet.specs.Table.{flat, table_of}
use Rattle.sheet.specs.declared.Sheet.{Sheet}

-- what follows from what a sheet holds, or from its fault
unfoldable pub on_judged {ℓ} : {A : Type ℓ} → Judged → (Fault → A) → (Contents → A) → A
on_judged (sound has) bad go = go has
on_judged (faulty f) bad go = bad f

-- the line of column j of what a sheet holds
unfoldable pub line_in : List ℕ → Contents → ℕ → List ℕ
unfolding column_line
line_in sheet has j = column_line (table_of sheet has j) j

-- its score
unfoldable pub score_in : List ℕ → Contents → ℕ → ℕ
unfolding score
score_in sheet has j = score (column (table_of sheet has j) 0)

-- a sheet that has been read: it holds this, and the lists have its costs and its tree
pub record IsRead (sheet : List ℕ) (s : Sheet) (costs left right : List ℕ) (has : Contents) : Type 0 where
  pub is : judge sheet ≡ sound has
  pub tips : s.tips ≡ has.tips
  pub columns : s.columns ≡ has.columns
  pub cells : s.cells ≡ has.cells
  pub nodes : s.nodes ≡ vine_nodes has.vine
  pub priced : costs ≡ flat has.costs
  pub lefts : take s.nodes left ≡ lefts has.vine 0
  pub rights : take s.nodes right ≡ rights has.vine 0

-- what a sheet comes to is these numbers, costs and tree
abbrev pub ReadAs : Judged → Sheet → List ℕ → List ℕ → List ℕ → Type 0
ReadAs (sound has) s costs left right =
    (s.tips ≡ has.tips)
    × (s.columns ≡ has.columns)
    × (s.cells ≡ has.cells)
    × (s.nodes ≡ vine_nodes has.vine)
    × (costs ≡ flat has.costs)
    × (take s.nodes left ≡ lefts has.vine 0)
    × (take s.nodes right ≡ rights has.vine 0)
ReadAs (faulty f) s costs left right = ⊥

-- the line of column j is put, and k is its score
pub record Printed (sheet : List ℕ) (has : Contents) (j : ℕ) (line line' : Text) (k : ℕ) : Type 0 where
  pub text : Puts (line_in sheet has j) line line'
  pub score : k ≡ score_in sheet has j

-- column j of a sheet that has been read may be printed
pub record Printable (sheet : List ℕ) (s : Sheet) (costs left right : List ℕ) (j : ℕ) : Type 0 where
  pub has : Contents
  pub read : IsRead sheet s costs left right has
  pub inside : j < has.columns

-- the line of column j of the sheet is put, whatever the sheet holds
pub record PrintedOf (sheet : List ℕ) (j : ℕ) (line line' : Text) (k : ℕ) : Type 0 where
  pub printed : (has : Contents) → judge sheet ≡ sound has → Printed sheet has j line line' k

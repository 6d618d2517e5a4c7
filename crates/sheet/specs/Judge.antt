-- What a sheet comes to: what it holds, or the first fault in the file.
-- Assumes nothing.
use Rattle.std.specs.Prelude.{Result, Ok, Err, List, ℕ, ◌+◌, eqb, ltb, length}
use Rattle.parsimony.specs.Test.{pick}
use Rattle.sheet_lines.specs.Count.{on_place}
use Rattle.sheet_lines.specs.Line.{line_end}
use Rattle.sheet_lines.specs.declared.Fault.{Fault}
use Rattle.sheet_lines.specs.declared.Fault.TheVariants.{Sheet, TreeText}
use Rattle.sheet_tips.specs.Tip.{Parsed, got, no_tree}
use Rattle.sheet_tips.specs.Vine.{Vine}
use Rattle.sheet_tree.specs.Parse.{line_tree}
use Rattle.sheet_sections.specs.Sheet.{sheet_of}
use Rattle.sheet_sections.specs.declared.Sections.{Sections}

-- what a sound sheet holds: the number of tips and of columns, the place of its first cell, its cost table and its tree
pub record Contents : Type 0 where
  pub tips : ℕ
  pub columns : ℕ
  pub cells : ℕ
  pub costs : List (List ℕ)
  pub vine : Vine

-- what a sheet comes to
pub data Judged : Type 0 where
  sound : Contents → Judged
  faulty : Fault → Judged

-- what follows from the sections, or from a fault
unfoldable pub on_reading : Result Sections Fault → (Sections → Judged) → Judged
on_reading (Ok s) go = go s
on_reading (Err f) go = faulty f

-- what follows from a tree, or where there is none
unfoldable pub on_tree : Parsed → Judged → (Vine → Judged) → Judged
on_tree (got vine e marks) none go = go vine
on_tree no_tree none go = none

-- The tree line, after the sections: its bytes and line end, or SHEET; its text, or TREE TEXT; and nothing after it, or
-- SHEET on the next line.
unfoldable pub tree_line : List ℕ → List ℕ → List (List ℕ) → Sections → Judged
unfolding pick on_place on_tree line_end line_tree
tree_line sheet names costs s =
    on_place (line_end sheet s.tree) (faulty (Sheet s.line))
    (λ end. on_tree (line_tree sheet names s.tips s.tree end) (faulty (TreeText s.line))
    (λ vine. pick (eqb (end + 1) (length sheet))
    (sound (record { tips = s.tips; columns = s.columns; cells = s.cells; costs = costs; vine = vine }))
    (faulty (Sheet (s.line + 1)))))

-- The whole sheet: at most 65,536 bytes, or SHEET with line 0; its sections; its tree line.
unfoldable pub judge : List ℕ → Judged
unfolding pick on_reading tree_line sheet_of
judge sheet =
    pick (ltb 65536 (length sheet)) (faulty (Sheet 0))
    (on_reading (sheet_of sheet).rest.reading (tree_line sheet (sheet_of sheet).names (sheet_of sheet).rest.costs))

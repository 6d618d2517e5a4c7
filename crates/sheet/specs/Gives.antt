-- What the reader of a sheet answers, and what it leaves in the lists.
-- Assumes nothing.
use Rattle.std.specs.Prelude.{Result, Ok, Err, List, ◌≡◌, ℕ}
use Rattle.std.proofs.lemmas.List.Edits.{sets}
use Rattle.sheet_tips.specs.Nodes.{lefts, rights}
use Rattle.sheet_tips.specs.Vine.{vine_nodes}
use Rattle.sheet_sections.specs.declared.Sections.{Sections}
use Rattle.sheet.specs.Judge.{Contents, Judged, sound, faulty, tree_line}
use Rattle.sheet.specs.declared.Sheet.{Sheet}
use Rattle.sheet_lines.specs.declared.Fault.{Fault}

-- the sheet is judged sound: s has the numbers of its contents, and the lists have its cost table and its tree
pub record HoldsContents (judged : Judged) (s : Sheet) (table' : List (List ℕ))
    (left right left' right' : List ℕ) : Type 0 where
  pub contents : Contents
  pub is : judged ≡ sound contents
  pub tips : s.tips ≡ contents.tips
  pub columns : s.columns ≡ contents.columns
  pub cells : s.cells ≡ contents.cells
  pub nodes : s.nodes ≡ vine_nodes contents.vine
  pub priced : table' ≡ contents.costs
  pub lefts : left' ≡ sets left 0 (lefts contents.vine 0)
  pub rights : right' ≡ sets right 0 (rights contents.vine 0)

-- the reader of a sheet answers with what the sheet is judged to hold, or with the fault that it is judged to have
abbrev pub GivesSheetFor : Judged → Result Sheet Fault → List (List ℕ) → List ℕ → List ℕ → List ℕ → List ℕ → Type 0
GivesSheetFor judged (Ok s) table' left right left' right' = HoldsContents judged s table' left right left' right'
GivesSheetFor judged (Err f) table' left right left' right' = judged ≡ faulty f

-- what the reader of a sheet gives for what the sheet is judged to be: the answer, and the lists that it fills
pub record GivesSheet (judged : Judged) (answer : Result Sheet Fault) (table' : List (List ℕ))
    (left right left' right' : List ℕ) : Type 0 where
  pub gives : GivesSheetFor judged answer table' left right left' right'

-- what the reader of the tree line gives after the sections s, whatever the costs are
pub record GivesTree (sheet names : List ℕ) (s : Sections) (answer : Result Sheet Fault)
    (left right left' right' : List ℕ) : Type 0 where
  pub tree : (costs : List (List ℕ)) → GivesSheet (tree_line sheet names costs s) answer costs left right left' right'

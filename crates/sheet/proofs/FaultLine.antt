-- The line that a fault of a sheet carries is a small number.
-- Assumes nothing.
use mathlib.Core.Bool.{Bool, true, false}
use mathlib.Core.List.{List}
use mathlib.Core.Path.{◌≡◌, refl, subst}
use Prim.Native.Nat.{ℕ, ◌+◌, ◌≤◌}
use native.Mathlib.Omega.{arith}
use lib.Dec.{eqb, ltb}
use lib.ListN.{length}
use Rattle.std.proofs.Common.{Option, Some, None, Result, Ok, Err}
use Rattle.parsimony.specs.Test.{pick}
use Rattle.sheet_lines.specs.Count.{on_place}
use Rattle.sheet_lines.specs.Fault.{fault_line}
use Rattle.sheet_lines.specs.Line.{line_end}
use Rattle.sheet_lines.specs.declared.Fault.{Fault}
use Rattle.sheet_lines.specs.declared.Fault.TheVariants.{Sheet, TreeText}
use Rattle.sheet_tips.specs.Tip.{Parsed, got, no_tree}
use Rattle.sheet_tips.specs.Vine.{Vine}
use Rattle.sheet_tree.specs.Parse.{line_tree}
use Rattle.sheet_sections.specs.Sheet.{sheet_of}
use Rattle.sheet_sections.specs.declared.Sections.{Sections}
use Rattle.sheet_sections.proofs.FaultLines.{fault_line_lem}
use Rattle.sheet_sections.proofs.SheetLaws.{sheet_read}
use Rattle.sheet.specs.Judge.{Judged, sound, faulty, on_reading, on_tree, tree_line, judge}

-- a fault is on a line up to 1,034
abbrev Low : Judged → Type 0
Low (sound has) = Unit {0}
Low (faulty f) = fault_line f ≤ 1034

low_pick : (b : Bool) (x y : Judged) → Low x → Low y → Low (pick b x y)
unfolding pick
low_pick true x y f g = f
low_pick false x y f g = g

module _ (sheet names : List ℕ) (costs : List (List ℕ)) (s : Sections) (line : s.line ≤ 1033) where
  tree_low : Low (tree_line sheet names costs s)
  unfolding tree_line on_place on_tree
  tree_low = by_place (line_end sheet s.tree)
    where
      after : ℕ → Vine → Judged
      after end vine =
          pick (eqb (end + 1) (length sheet))
          (sound (record { tips = s.tips; columns = s.columns; cells = s.cells; costs = costs; vine = vine }))
          (faulty (Sheet (s.line + 1)))

      by_tree : (end : ℕ) (p : Parsed) → Low (on_tree p (faulty (TreeText s.line)) (after end))
      by_tree end (got vine e marks) =
          low_pick (eqb (end + 1) (length sheet))
          (sound (record { tips = s.tips; columns = s.columns; cells = s.cells; costs = costs; vine = vine }))
          (faulty (Sheet (s.line + 1))) tt (omega arith)
      by_tree end no_tree = omega arith

      by_place : (p : Option ℕ) → Low (on_place p (faulty (Sheet s.line))
          (λ end. on_tree (line_tree sheet names s.tips s.tree end) (faulty (TreeText s.line)) (after end)))
      by_place (Some end) = by_tree end (line_tree sheet names s.tips s.tree end)
      by_place None = omega arith

-- Every fault of a sheet is on a line up to 1,034.
pub judge_line : (sheet : List ℕ) (f : Fault) → judge sheet ≡ faulty f → fault_line f ≤ 1034
unfolding judge on_reading
judge_line sheet f h =
    subst Low h
    (low_pick (ltb 65536 (length sheet)) (faulty (Sheet 0)) (on_reading (sheet_of sheet).rest.reading rest)
    (omega arith) (by_reading (sheet_of sheet).rest.reading refl))
  where
    rest : Sections → Judged
    rest = tree_line sheet (sheet_of sheet).names (sheet_of sheet).rest.costs

    by_reading : (r : Result Sections Fault) → (sheet_of sheet).rest.reading ≡ r → Low (on_reading r rest)
    by_reading (Ok s) e =
        let read = sheet_read sheet s e in
        let number = read.rest.line in
        let few = read.few in
        tree_low sheet (sheet_of sheet).names (sheet_of sheet).rest.costs s (omega arith)
    by_reading (Err g) e = let low = fault_line_lem sheet g e in omega arith

-- What a sound sheet has, in words: its names, cells, costs and tree keep their rules, and so does each column's table.
-- Assumes nothing.
use mathlib.Core.Bool.{Bool, true, false}
use mathlib.Core.List.{List}
use mathlib.Core.Path.{◌≡◌, refl, sym, ◌∙◌, subst}
use Prim.Native.Nat.{ℕ, ◌+◌, ◌≤◌}
use native.Mathlib.Omega.{arith}
use borrow.Author.Tests.{eqb-true, ltb-false}
use lib.Dec.{eqb, ltb}
use lib.ListN.{length}
use Rattle.std.proofs.Common.{Option, Some, None, Result, Ok, Err}
use Rattle.parsimony.specs.Test.{pick}
use Rattle.parsimony.proofs.Order.{pick_true, pick_false}
use Rattle.sheet_lines.specs.Count.{on_place}
use Rattle.sheet_lines.specs.Line.{line_end}
use Rattle.sheet_lines.specs.declared.Fault.TheVariants.{Sheet, TreeText}
use Rattle.sheet_tips.specs.Tip.{Parsed, got, no_tree}
use Rattle.sheet_tips.specs.Vine.{Vine}
use Rattle.sheet_tree.specs.Parse.{line_tree}
use Rattle.sheet_sections.specs.Sheet.{sheet_of}
use Rattle.sheet_sections.specs.declared.Sections.{Sections}
use Rattle.sheet.specs.Judge.{Contents, Judged, sound, faulty, on_reading, on_tree, tree_line, judge}
use Rattle.sheet_lines.specs.declared.Fault.{Fault}

faulty_sound : {f : Rattle.sheet_lines.specs.declared.Fault.Fault} {has : Contents} → faulty f ≡ sound has → ⊥
faulty_sound e = let z : ◌≡◌ {A = ℕ} 0 1 = cc in omega arith

pub sound_same : {a b : Contents} → sound a ≡ sound b → a ≡ b
sound_same e = cc

-- what a sound sheet came from
pub record SoundFrom (sheet : List ℕ) (has : Contents) : Type 0 where
  pub short : length sheet ≤ 65536
  pub sections : Sections
  pub reading : (sheet_of sheet).rest.reading ≡ Ok sections
  pub end : ℕ
  pub line : line_end sheet sections.tree ≡ Some end
  pub stop : ℕ
  pub marks : List ℕ
  pub tree : line_tree sheet (sheet_of sheet).names sections.tips sections.tree end ≡ got has.vine stop marks
  pub last : end + 1 ≡ length sheet
  pub tips : has.tips ≡ sections.tips
  pub columns : has.columns ≡ sections.columns
  pub cells : has.cells ≡ sections.cells
  pub costs : has.costs ≡ (sheet_of sheet).rest.costs

pub sound_from : (sheet : List ℕ) (has : Contents) → judge sheet ≡ sound has → SoundFrom sheet has
unfolding judge tree_line on_reading on_place on_tree
sound_from sheet has h = by_length (ltb 65536 (length sheet)) refl h
  where
    names : List ℕ
    names = (sheet_of sheet).names

    costs : List (List ℕ)
    costs = (sheet_of sheet).rest.costs

    holds : Sections → Vine → Contents
    holds s vine = record { tips = s.tips; columns = s.columns; cells = s.cells; costs = costs; vine = vine }

    by_end : (s : Sections) → (sheet_of sheet).rest.reading ≡ Ok s → (end : ℕ) → line_end sheet s.tree ≡ Some end
        → (vine : Vine) (e : ℕ) (m : List ℕ) → line_tree sheet names s.tips s.tree end ≡ got vine e m
        → length sheet ≤ 65536
        → (b : Bool) → eqb (end + 1) (length sheet) ≡ b
        → pick b (sound (holds s vine)) (faulty (Sheet (s.line + 1))) ≡ sound has → SoundFrom sheet has
    by_end s reading end line vine e m tree short true y g =
        let same = sound_same (sym (pick_true (sound (holds s vine)) (faulty (Sheet (s.line + 1))) refl) ∙ g) in
        subst (SoundFrom sheet) same
        (record {
          short = short;
          sections = s;
          reading = reading;
          end = end;
          line = line;
          stop = e;
          marks = m;
          tree = tree;
          last = eqb-true (end + 1) (length sheet) y;
          tips = refl;
          columns = refl;
          cells = refl;
          costs = refl;
        })
    by_end s reading end line vine e m tree short false y g =
        absurd (faulty_sound (sym (pick_false (sound (holds s vine)) (faulty (Sheet (s.line + 1))) refl) ∙ g))

    after : Sections → ℕ → Vine → Judged
    after s end vine = pick (eqb (end + 1) (length sheet)) (sound (holds s vine)) (faulty (Sheet (s.line + 1)))

    by_tree : (s : Sections) → (sheet_of sheet).rest.reading ≡ Ok s → (end : ℕ) → line_end sheet s.tree ≡ Some end
        → length sheet ≤ 65536 → (p : Parsed) → line_tree sheet names s.tips s.tree end ≡ p
        → on_tree p (faulty (TreeText s.line)) (after s end) ≡ sound has → SoundFrom sheet has
    by_tree s reading end line short (got vine e m) tree g =
        by_end s reading end line vine e m tree short (eqb (end + 1) (length sheet)) refl g
    by_tree s reading end line short no_tree tree g = absurd (faulty_sound g)

    by_line : (s : Sections) → (sheet_of sheet).rest.reading ≡ Ok s → length sheet ≤ 65536
        → (p : Option ℕ) → line_end sheet s.tree ≡ p
        → on_place p (faulty (Sheet s.line))
        (λ end. on_tree (line_tree sheet names s.tips s.tree end) (faulty (TreeText s.line)) (after s end))
        ≡ sound has → SoundFrom sheet has
    by_line s reading short (Some end) line g =
        by_tree s reading end line short (line_tree sheet names s.tips s.tree end) refl g
    by_line s reading short None line g = absurd (faulty_sound g)

    by_reading : length sheet ≤ 65536 → (r : Result Sections Fault) → (sheet_of sheet).rest.reading ≡ r
        → on_reading r (tree_line sheet names costs) ≡ sound has → SoundFrom sheet has
    by_reading short (Ok s) reading g = by_line s reading short (line_end sheet s.tree) refl g
    by_reading short (Err f) reading g = absurd (faulty_sound g)

    whole : Judged
    whole = on_reading (sheet_of sheet).rest.reading (tree_line sheet names costs)

    by_length : (b : Bool) → ltb 65536 (length sheet) ≡ b → pick b (faulty (Sheet 0)) whole ≡ sound has
        → SoundFrom sheet has
    by_length true y g = absurd (faulty_sound (sym (pick_true (faulty (Sheet 0)) whole refl) ∙ g))
    by_length false y g =
        by_reading (ltb-false 65536 (length sheet) y) (sheet_of sheet).rest.reading refl
        (sym (pick_false (faulty (Sheet 0)) whole refl) ∙ g)

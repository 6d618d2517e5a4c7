-- The turns of the sheet's reader: its length, its sections, its tree line, and nothing after it.
-- Assumes nothing.
use mathlib.Core.List.{List, ◌++◌, append-nil}
use mathlib.Core.Path.{◌≡◌, refl, ap, sym, ◌∙◌, subst}
use Prim.Native.Nat.{ℕ, ◌+◌, ◌<◌, ◌≤◌}
use native.Mathlib.Omega.{arith}
use borrow.Author.Tests.{eq-eqb, ne_eqb, lt-ltb, le-ltb}
use lib.Dec.{eqb}
use lib.ListN.{length, drop, take, drop_of_length-le}
use lib.Seq.{take-append_seam}
use Rattle.std.proofs.Common.{Option, Some, None, Result, Ok, Err}
use Rattle.parsimony.specs.Test.{pick}
use Rattle.parsimony.proofs.Order.{pick_true, pick_false}
use Rattle.sheet_lines.specs.Count.{on_place}
use Rattle.sheet_lines.specs.Line.{line_end}
use Rattle.sheet_lines.specs.Section.{wrote}
use Rattle.sheet_lines.specs.declared.Fault.{Fault}
use Rattle.sheet_lines.specs.declared.Fault.TheVariants.{Sheet, TreeText}
use Rattle.sheet_tips.specs.Tip.{Parsed, no_tree}
use Rattle.sheet_tips.specs.Vine.{Vine}
use Rattle.sheet_tree.specs.Parse.{line_tree}
use Rattle.sheet_tree.specs.Reading.{GotLine, GivesLineFor, GivesLine}
use Rattle.sheet_sections.specs.Sheet.{GivesSections, sheet_of}
use Rattle.sheet_sections.specs.declared.Sections.{Sections}
use Rattle.sheet_sections.proofs.SheetLaws.{sheet_read}
use Rattle.sheet.specs.Gives.{GivesSheet, GivesTree}
use Rattle.sheet.specs.Judge.{Judged, sound, faulty, on_reading, on_tree, tree_line, judge}
use Rattle.sheet.specs.declared.Sheet as Sheets

-- an answer of the tree line's reader, by its case
pub line_tree_lem : {p : Parsed} {left right : List ℕ} {answer : Option (ℕ × ℕ)} {left' right' : List ℕ} (stop n : ℕ)
    → GivesLine p left right answer left' right' → answer ≡ Some (stop, n) → GotLine p left right stop n left' right'
line_tree_lem {p} {left} {right} {answer} {left'} {right'} stop n g e =
    subst (λ a. GivesLineFor p left right a left' right') e g.gives

-- the same of a tree line that has as many names as the sheet has tips
pub line_of_tips : (sheet names : List ℕ) {t : ℕ} (at end : ℕ) {left right : List ℕ} {answer : Option (ℕ × ℕ)}
    {left' right' : List ℕ} → length names ≡ t
    → GivesLine (line_tree sheet names (length names) at end) left right answer left' right'
    → GivesLine (line_tree sheet names t at end) left right answer left' right'
line_of_tips sheet names {t} at end {left} {right} {answer} {left'} {right'} size g =
    subst (λ k. GivesLine (line_tree sheet names k at end) left right answer left' right') size g

pub line_no_tree : {p : Parsed} {left right : List ℕ} {answer : Option (ℕ × ℕ)} {left' right' : List ℕ}
    → GivesLine p left right answer left' right' → answer ≡ None → p ≡ no_tree
line_no_tree {p} {left} {right} {answer} {left'} {right'} g e =
    subst (λ a. GivesLineFor p left right a left' right') e g.gives

module _ (sheet names : List ℕ) (s : Sections) (left right left' right' : List ℕ) where
  -- what follows the line's end, and what follows the tree
  abbrev after_tree : List (List ℕ) → ℕ → Vine → Judged
  after_tree costs end vine =
      pick (eqb (end + 1) (length sheet))
      (sound (record { tips = s.tips; columns = s.columns; cells = s.cells; costs = costs; vine = vine }))
      (faulty (Sheet (s.line + 1)))

  abbrev after_line : List (List ℕ) → ℕ → Judged
  after_line costs end =
      on_tree (line_tree sheet names s.tips s.tree end) (faulty (TreeText s.line)) (after_tree costs end)

  -- no line: SHEET
  pub no_line : line_end sheet s.tree ≡ None
      → GivesTree sheet names s (Err (Sheet s.line)) left right left' right'
  unfolding tree_line on_place
  no_line none =
      record {
        tree = λ costs. record {
          gives = ap (λ p. on_place p (faulty (Sheet s.line)) (after_line costs)) none;
        };
      }

  module _ (end : ℕ) (line : line_end sheet s.tree ≡ Some end) where
    to_line : (costs : List (List ℕ)) → tree_line sheet names costs s ≡ after_line costs end
    unfolding tree_line on_place
    to_line costs = ap (λ p. on_place p (faulty (Sheet s.line)) (after_line costs)) line

    -- no tree: TREE TEXT
    pub no_tree_lem : line_tree sheet names s.tips s.tree end ≡ no_tree
        → GivesTree sheet names s (Err (TreeText s.line)) left right left' right'
    unfolding on_tree
    no_tree_lem none =
        record {
          tree = λ costs. record {
            gives = to_line costs ∙ ap (λ p. on_tree p (faulty (TreeText s.line)) (after_tree costs end)) none;
          };
        }

    module _ (stop n : ℕ)
        (tree : GotLine (line_tree sheet names s.tips s.tree end) left right stop n left' right') where
      to_tree : (costs : List (List ℕ)) → tree_line sheet names costs s ≡ after_tree costs end tree.line.vine
      unfolding on_tree
      to_tree costs =
          to_line costs ∙ ap (λ p. on_tree p (faulty (TreeText s.line)) (after_tree costs end)) tree.line.is

      -- something after it: SHEET on the next line
      pub more_after : (end + 1 ≡ length sheet → ⊥)
          → GivesTree sheet names s (Err (Sheet (s.line + 1))) left right left' right'
      more_after ne =
          record {
            tree = λ costs. record {
              gives = to_tree costs ∙ pick_false _ _ (ne_eqb (end + 1) (length sheet) ne);
            };
          }

      -- and nothing: the sheet is sound
      pub whole_line : end + 1 ≡ length sheet
          → GivesTree sheet names s
          (Ok (record { tips = s.tips; columns = s.columns; cells = s.cells; nodes = n }))
          left right left' right'
      whole_line last =
          record {
            tree = λ costs. record {
              gives = record {
                contents = record {
                  tips = s.tips;
                  columns = s.columns;
                  cells = s.cells;
                  costs = costs;
                  vine = tree.line.vine;
                };
                is = to_tree costs ∙ pick_true _ _ (eq-eqb (end + 1) (length sheet) last);
                tips = refl;
                columns = refl;
                cells = refl;
                nodes = let count = tree.line.count in omega arith;
                priced = refl;
                lefts = tree.line.lefts;
                rights = tree.line.rights;
              };
            };
          }

-- The sections' answer, and what it says.
module _ (sheet : List ℕ) (answer : Result Sections Fault) (names names₁ : List ℕ) (table table₁ : List (List ℕ))
    (gives : GivesSections (sheet_of sheet) answer names names₁ table table₁) where
  module _ (s : Sections) (is : answer ≡ Ok s) where
    read : (sheet_of sheet).rest.reading ≡ Ok s
    read = sym gives.rest.said ∙ is

    -- at most 512 tips, and a line number that is small
    pub sections_few : s.tips ≤ 512
    sections_few = (sheet_read sheet s read).few

    pub sections_line : s.line ≤ 65535
    sections_line =
        let number = (sheet_read sheet s read).rest.line in
        let few = sections_few in
        omega arith

    -- the places of the names
    pub sections_names : take s.tips names₁ ≡ (sheet_of sheet).names
    unfolding wrote
    sections_names =
        let size = (sheet_read sheet s read).size in
        ap (take s.tips) gives.named
        ∙ ap (λ n. take n ((sheet_of sheet).names ++ drop (length (sheet_of sheet).names) names)) (sym size)
        ∙ take-append_seam (sheet_of sheet).names (drop (length (sheet_of sheet).names) names)

    -- the cost table
    sections_costs : length table ≡ 4 → table₁ ≡ (sheet_of sheet).rest.costs
    unfolding wrote
    sections_costs four =
        let costs = (sheet_of sheet).rest.costs in
        let size = (sheet_read sheet s read).rest.priced.size in
        let over : length table ≤ length costs = omega arith in
        gives.rest.priced ∙ ap (λ l. costs ++ l) (drop_of_length-le table over) ∙ append-nil costs

module _ (sheet : List ℕ) (left right left' right' : List ℕ) where
  -- a long sheet: SHEET, line 0
  pub sheet_long : (table' : List (List ℕ)) → 65536 < length sheet
      → GivesSheet (judge sheet) (Err (Sheet 0)) table' left right left' right'
  unfolding judge
  sheet_long table' long = record { gives = pick_true _ _ (lt-ltb 65536 (length sheet) long) }

  module _ (short : length sheet ≤ 65536) where
    to_sections : judge sheet
        ≡ on_reading (sheet_of sheet).rest.reading (tree_line sheet (sheet_of sheet).names (sheet_of sheet).rest.costs)
    unfolding judge
    to_sections = pick_false _ _ (le-ltb 65536 (length sheet) short)

    -- a fault of the sections
    pub sheet_faulty : (f : Fault) (answer : Result Sections Fault) (names names₁ : List ℕ)
        (table table₁ : List (List ℕ))
        → GivesSections (sheet_of sheet) answer names names₁ table table₁ → answer ≡ Err f
        → GivesSheet (judge sheet) (Err f) table₁ left right left' right'
    unfolding on_reading
    sheet_faulty f answer names names₁ table table₁ gives is =
        record {
          gives = to_sections
              ∙ ap (λ r. on_reading r (tree_line sheet (sheet_of sheet).names (sheet_of sheet).rest.costs))
              (sym gives.rest.said ∙ is);
        }

    -- and what the tree line gives after sound ones
    pub sheet_tree : (s : Sections) (answer : Result Sections Fault) (names names₁ places : List ℕ)
        (table table₁ : List (List ℕ))
        (r : Result Sheets.Sheet Fault)
        → GivesSections (sheet_of sheet) answer names names₁ table table₁ → answer ≡ Ok s → length table ≡ 4
        → places ≡ take s.tips names₁ → GivesTree sheet places s r left right left' right'
        → GivesSheet (judge sheet) r table₁ left right left' right'
    unfolding on_reading
    sheet_tree s answer names names₁ places table table₁ r gives is four same tree =
        let costs = (sheet_of sheet).rest.costs in
        let at_names = same ∙ sections_names sheet answer names names₁ table table₁ gives s is in
        let priced = sections_costs sheet answer names names₁ table table₁ gives s is four in
        let told : judge sheet ≡ tree_line sheet places costs s =
        to_sections
        ∙ ap (λ a. on_reading a (tree_line sheet (sheet_of sheet).names costs)) (sym gives.rest.said ∙ is)
        ∙ ap (λ n. tree_line sheet n costs s) (sym at_names) in
        subst (λ t. GivesSheet (judge sheet) r t left right left' right') (sym priced)
        (subst (λ j. GivesSheet j r costs left right left' right') (sym told) (tree.tree costs))

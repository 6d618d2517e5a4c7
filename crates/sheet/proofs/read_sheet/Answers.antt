-- `read_sheet` meets its contract, case by case.
-- Assumes nothing.
use mathlib.Core.Path.{◌≡◌, refl}
use native.Mathlib.Omega.{arith}
use lib.Seq.{length-take-le}
use Rattle.std.proofs.Common.{Err, rules}
use Rattle.sheet.proofs.ReadSteps.{sections_few, sections_line, sheet_long, sheet_faulty, sheet_tree}
use Rattle.sheet.proofs.read_sheet.Goals as goal

pub returns-then-sheet-gt-MOST_BYTES : goal.returns-then-sheet-gt-MOST_BYTES
returns-then-sheet-gt-MOST_BYTES c = sheet_long _ _ _ _ _ _ c.if-sheet-gt-MOST_BYTES.true

pub returns-in_err-s : goal.returns-in_err-s
returns-in_err-s c =
    let e : c.from_residual.result ≡ Err c.in_err-s.field-0.0 = search rules in
    rw e
    (sheet_faulty _ _ _ _ _ c.if-sheet-gt-MOST_BYTES.false _ _ _ _ _ _ c.read_sections.ensures c.in_err-s.was)

pub slice_bounds-read_tree_line-end : goal.slice_bounds-read_tree_line-end
slice_bounds-read_tree_line-end c =
    let few = sections_few _ _ _ _ _ _ c.read_sections.ensures _ c.in_ok-s.was in
    let same = c.read_sections.auto.names in
    omega (arith, c.requires)

pub slice_bounds-read_tree_line-end-2 : goal.slice_bounds-read_tree_line-end-2
slice_bounds-read_tree_line-end-2 c =
    let few = sections_few _ _ _ _ _ _ c.read_sections.ensures _ c.in_ok-s.was in
    let same = c.read_sections.auto.names in
    let size = length-take-le c.in_ok-s.s.tips c.read_sections.new.names (omega (arith, c.requires)) in
    omega (arith, size)

pub read_tree_line-requires-clause-tips_bound : goal.read_tree_line-requires-clause-tips_bound
read_tree_line-requires-clause-tips_bound c =
    let few = sections_few _ _ _ _ _ _ c.read_sections.ensures _ c.in_ok-s.was in
    let same = c.read_sections.auto.names in
    let size = length-take-le c.in_ok-s.s.tips c.read_sections.new.names (omega (arith, c.requires)) in
    (size, few)

pub read_tree_line-requires-clause-line_bound : goal.read_tree_line-requires-clause-line_bound
read_tree_line-requires-clause-line_bound c = sections_line _ _ _ _ _ _ c.read_sections.ensures _ c.in_ok-s.was

pub returns : goal.returns
returns c =
    sheet_tree _ _ _ _ _ c.if-sheet-gt-MOST_BYTES.false _ _ _ _ _ _ _ _ c.read_sections.ensures c.in_ok-s.was
    c.told-table refl
    c.read_tree_line.ensures

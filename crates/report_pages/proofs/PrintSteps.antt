-- What the printer of a column needs and gives.
-- Assumes nothing.
use mathlib.Core.List.{List, []}
use mathlib.Core.Path.{◌≡◌, ap, sym, ◌∙◌, subst}
use Prim.Native.Nat.{ℕ, ◌+◌, ◌<◌, ◌≤◌}
use native.Mathlib.Omega.{arith}
use lib.ListN.{length, get_or, take}
use lib.Seq.{length-take-le, get_or-take, ext_get_or}
use Rattle.parsimony.specs.Allowed.{most_handed}
use Rattle.parsimony.specs.Barred.{barred}
use Rattle.parsimony.proofs.FilledLaws.{list_long, list_at}
use Rattle.parsimony.proofs.Scoring.{score_open}
use Rattle.promises.specs.CallRules.{Allowed}
use Rattle.promises.specs.Input.{Input, input, column}
use Rattle.promises.proofs.TableLaws.{table_sound}
use Rattle.sheet_cells.specs.IsRow.{row_at}
use Rattle.sheet_tips.specs.Nodes.{lefts, rights}
use Rattle.sheet_tree.proofs.PairSteps.{lefts_long, rights_long}
use Rattle.report_pages.specs.SheetLine.{line_in, score_in, Printed, Printable, PrintedOf}
use Rattle.report_text.specs.declared.Text.{Text}
use Rattle.report_lines.specs.Reports.{Reported}
use Rattle.report_lines.proofs.ReportLaws.{line_most}
use Rattle.sheet_sections.proofs.SheetLaws.{sheet_read}
use Rattle.sheet_symbols.specs.Code.{symbol_set}
use Rattle.sheet.specs.Cells.{Inside, Filled}
use Rattle.sheet.specs.Judge.{Contents}
use Rattle.sheet.specs.Table.{flat, cell_of, cells_of, table_of}
use Rattle.sheet.specs.declared.Sheet.{Sheet}
use Rattle.sheet.proofs.SoundSheet.{SoundFrom, sound_from, sound_same}
use Rattle.sheet.proofs.TableRules.{sheet_legal, sheet_cell, sheet_allowed}

module _ (sheet : List ℕ) (s : Sheet) (costs left right : List ℕ) (j : ℕ) (ready : Printable sheet s costs left right j)
  where
    abbrev has : Contents
    has = ready.has

    from : SoundFrom sheet has
    from = sound_from sheet has ready.read.is

    -- the numbers are small, and the cells stand in the sheet
    pub printable_cells : (s.tips ≤ 512) × (s.columns ≤ 65535) × Inside sheet s.tips s.columns s.cells j
    printable_cells =
        let read = sheet_read sheet from.sections from.reading in
        let few = read.few in
        let t = ready.read.tips in
        let t' = from.tips in
        let c = ready.read.columns in
        let c' = from.columns in
        let most = read.rest.columns in (
          omega arith,
          omega arith,
          record {
            cell = λ r h. let inside = (sheet_cell sheet has from j r ready.inside (omega arith)).0 in
                subst (λ k. row_at k s.columns r + j < length sheet) (sym ready.read.cells)
                (subst (λ k. row_at has.cells k r + j < length sheet) (sym ready.read.columns) inside);
          },
        )

    -- the number of nodes is small
    pub printable_nodes : (s.nodes ≤ 1023) × (j ≤ 65535)
    printable_nodes =
        let most = (sheet_legal sheet has from).size.most in
        let long = lefts_long has.vine 0 in
        let n = ready.read.nodes in
        let c = from.columns in
        let read = (sheet_read sheet from.sections from.reading).rest.columns in
        let inside = ready.inside in
        (omega arith, omega arith)

    -- and the lists of the tree have them all
    pub printable_lists : (s.nodes ≡ length (take s.nodes left)) × (s.nodes ≡ length (take s.nodes right))
    printable_lists =
        let n = ready.read.nodes in
        let l = ap length ready.read.lefts ∙ lefts_long has.vine 0 in
        let r = ap length ready.read.rights ∙ rights_long has.vine 0 in
        (omega arith, omega arith)

    -- the cells that are put are those of the column
    pub put_cells_are : (cells : List ℕ) → length cells ≡ 512 → Filled sheet s.columns s.cells j s.tips cells
        → take s.tips cells ≡ cells_of sheet has j
    unfolding cells_of cell_of
    put_cells_are cells long filled =
        let few = printable_cells.0 in
        let t = ready.read.tips in
        let one : length (take s.tips cells) ≡ s.tips = length-take-le s.tips cells (omega arith) in
        let two = list_long has.tips (cell_of sheet has j) in
        ext_get_or 0 (take s.tips cells) (cells_of sheet has j) (omega arith)
        (λ r h. get_or-take s.tips cells r 0 (omega arith)
        ∙ filled.cell r (omega arith)
        ∙ ap (λ k. symbol_set (get_or sheet (row_at k s.columns r + j) 0)) ready.read.cells
        ∙ ap (λ k. symbol_set (get_or sheet (row_at has.cells k r + j) 0)) ready.read.columns
        ∙ sym (list_at has.tips (cell_of sheet has j) r (omega arith)))

    -- so the table that is worked is the column's
    pub printable_table : (l r c : List ℕ) → l ≡ take s.nodes left → r ≡ take s.nodes right → c ≡ cells_of sheet
        has j
        → input l r 4 costs 1 c [] ≡ table_of sheet has j
    printable_table l r c el er ec =
        ap (λ x. input x r 4 costs 1 c []) (el ∙ ready.read.lefts)
        ∙ ap (λ x. input (lefts has.vine 0) x 4 costs 1 c []) (er ∙ ready.read.rights)
        ∙ ap (λ x. input (lefts has.vine 0) (rights has.vine 0) 4 x 1 c []) ready.read.priced
        ∙ ap (λ x. input (lefts has.vine 0) (rights has.vine 0) 4 (flat has.costs) 1 x []) ec

    pub printable_allowed : Allowed (table_of sheet has j)
    printable_allowed = sheet_allowed sheet has from j ready.inside

    -- and its line is at most 1,056 bytes long
    pub printable_most : length (line_in sheet has j) ≤ 1056
    unfolding line_in
    printable_most = line_most (table_of sheet has j) printable_allowed (omega arith) j printable_nodes.1

    -- and its score is below the barred entry
    pub printable_score : score_in sheet has j < barred
    unfolding score_in
    printable_score =
        let I = table_of sheet has j in
        score_open most_handed (column I 0) (table_sound I printable_allowed 0 (omega arith))

    -- and its line is the column's
    pub printable_line : (I : Input) → I ≡ table_of sheet has j → (states sets rows : List ℕ) (line : Text) (k : ℕ)
        (states' sets' rows' : List ℕ) (line' : Text)
        → Reported I j states sets rows line k states' sets' rows' line' → PrintedOf sheet j line line' k
    unfolding line_in score_in
    printable_line I same states sets rows line k states' sets' rows' line' reported =
        record {
          printed = λ other is. let eq : has ≡ other = sound_same (sym ready.read.is ∙ is) in
              let told = subst (λ X. Reported X j states sets rows line k states' sets' rows' line') same reported in
              subst (λ h. Printed sheet h j line line' k) eq (record { text = told.text; score = told.score });
        }

-- The table of a column of a sound sheet is allowed.
-- Assumes nothing.
use mathlib.Core.List.{List, [], ◌∷◌, ◌++◌}
use mathlib.Core.Path.{◌≡◌, ap, sym, ◌∙◌, subst}
use Prim.Native.Nat.{ℕ, zero, suc, ◌+◌, ◌*◌, ◌<◌, ◌≤◌}
use native.Mathlib.Nat.{not-suc-le-zero, mul-one, zero-mul}
use native.Mathlib.Omega.{arith}
use lib.ListN.{length, get_or, length-append, get_or-append}
use lib.Seq.{get_or-append-add}
use Rattle.parsimony.specs.Allowed.{CostRules, CellRules}
use Rattle.parsimony.specs.Table.{symbol, handed, Legal}
use Rattle.parsimony.proofs.FilledLaws.{list_long, list_at}
use Rattle.promises.specs.CallRules.{Allowed}
use Rattle.promises.specs.Input.{tips_in}
use Rattle.promises.proofs.RuleLaws.{none_handed}
use Rattle.sheet_cells.specs.IsRow.{row_at}
use Rattle.sheet_costs.specs.CostRules.{TableRules, Flat}
use Rattle.sheet_costs.proofs.FlatLaws.{flat_rules}
use Rattle.sheet_tips.specs.Nodes.{lefts, rights}
use Rattle.sheet_tree.proofs.OnceLaws.{line_legal, line_tips, line_handed}
use Rattle.sheet_sections.specs.Sheet.{sheet_of}
use Rattle.sheet_sections.specs.SheetRead.{SheetRead}
use Rattle.sheet_sections.proofs.SheetLaws.{sheet_read}
use Rattle.sheet.specs.Judge.{Contents}
use Rattle.sheet.specs.Table.{flat, cell_of, cells_of, table_of}
use Rattle.sheet.proofs.CellSteps.{set_listed}
use Rattle.sheet.proofs.SoundSheet.{SoundFrom}
use Rattle.sheet_symbols.specs.Code.{symbol_set}
use Rattle.sheet_symbols.proofs.SymbolLaws.{symbol_set_lem}

-- the rows of four entries, one after the other
flat_long : (rows : List (List ℕ)) → ((x : ℕ) → x < length rows → length (get_or rows x []) ≡ 4)
    → length (flat rows) ≡ length rows * 4
unfolding flat
flat_long [] four = sym (zero-mul 4)
flat_long (row ∷ rows) four =
    let first = four 0 (omega arith) in
    let rest = flat_long rows (λ x h. four (suc x) (omega arith)) in
    let whole = length-append row (flat rows) in
    omega arith

flat_at : (rows : List (List ℕ)) → ((x : ℕ) → x < length rows → length (get_or rows x []) ≡ 4) → (x y : ℕ)
    → x < length rows → y < 4 → get_or (flat rows) (x * 4 + y) 0 ≡ get_or (get_or rows x []) y 0
unfolding flat
flat_at [] four x y h k = absurd (not-suc-le-zero h)
flat_at (row ∷ rows) four zero y h k =
    let first = four 0 (omega arith) in
    let same : 0 * 4 + y ≡ y = omega arith in
    ap (λ i. get_or (row ++ flat rows) i 0) same ∙ get_or-append row (flat rows) 0 y (omega arith)
flat_at (row ∷ rows) four (suc x) y h k =
    let first = four 0 (omega arith) in
    let same : suc x * 4 + y ≡ length row + (x * 4 + y) = omega arith in
    ap (λ i. get_or (row ++ flat rows) i 0) same
    ∙ get_or-append-add row (flat rows) (x * 4 + y) 0
    ∙ flat_at rows (λ z i. four (suc z) (omega arith)) x y (omega arith) k

pub flat_is : (table : List (List ℕ)) → TableRules table → Flat table (flat table)
flat_is table rules =
    let size = rules.size in
    let four : (x : ℕ) → x < length table → length (get_or table x []) ≡ 4 = λ x h. (rules.rows x (omega arith)).size in
    let long = flat_long table four in
    record { size = omega arith; entry = λ x y hx hy. flat_at table four x y (omega arith) hy }

module _ (sheet : List ℕ) (has : Contents) (from : SoundFrom sheet has) where
  read : SheetRead sheet (sheet_of sheet).names (sheet_of sheet).rest.costs from.sections
  read = sheet_read sheet from.sections from.reading

  few : from.sections.tips ≤ 512
  few = read.few

  named : from.sections.tips ≤ length (sheet_of sheet).names
  named = let size = read.size in omega arith

  -- its tree is legal, with a symbol tip for each name and no handed tip
  pub sheet_legal : Legal (lefts has.vine 0) (rights has.vine 0)
  sheet_legal =
      line_legal sheet (sheet_of sheet).names from.sections.tips from.sections.tree from.end few named
      has.vine from.stop from.marks from.tree

  sheet_tips : (j : ℕ) → tips_in symbol (table_of sheet has j) ≡ has.tips
  sheet_tips j =
      line_tips sheet (sheet_of sheet).names from.sections.tips from.sections.tree from.end few named
      has.vine from.stop from.marks from.tree
      ∙ sym from.tips

  pub sheet_handed : (j : ℕ) → tips_in handed (table_of sheet has j) ≡ 0
  sheet_handed j =
      line_handed sheet (sheet_of sheet).names from.sections.tips from.sections.tree from.end few named
      has.vine from.stop from.marks from.tree

  -- its costs keep the rules
  pub sheet_costs_lem : CostRules 4 (flat has.costs)
  sheet_costs_lem =
      let rules = subst TableRules (sym from.costs) read.rest.priced in
      flat_rules has.costs (flat has.costs) rules (flat_is has.costs rules)

  -- the cell of row r and column j stands at its place and is a symbol's set
  pub sheet_cell : (j r : ℕ) → j < has.columns → r < has.tips
      → (row_at has.cells has.columns r + j < length sheet) × (1 ≤ cell_of sheet has j r)
      × (cell_of sheet has j r ≤ 15)
  unfolding cell_of
  sheet_cell j r hj hr =
      let place = row_at from.sections.cells from.sections.columns r in
      let t = from.tips in
      let c = from.columns in
      let same : row_at has.cells has.columns r ≡ place =
      ap (λ k. row_at k has.columns r) from.cells ∙ ap (λ k. row_at from.sections.cells k r) from.columns in
      let row = read.rest.rows r (omega arith) in
      let (set, is) = row.listed j (omega arith) in
      let plain = row.line.plain (place + j) (omega arith) (omega arith) in
      let byte = get_or sheet (place + j) 0 in
      let most = plain.1 in
      let fits = symbol_set_lem byte set (omega arith) is in
      let code : symbol_set (get_or sheet (row_at has.cells has.columns r + j) 0) ≡ set =
      ap (λ k. symbol_set (get_or sheet (k + j) 0)) same ∙ set_listed byte set is in
      let inside = row.line.inside in
      let low = fits.0 in
      let high = fits.1 in
      (omega arith, omega arith, omega arith)

  sheet_cells : (j : ℕ) → j < has.columns → CellRules 4 (tips_in symbol (table_of sheet has j)) 1 (cells_of sheet has j)
  unfolding cells_of
  sheet_cells j hj =
      subst (λ t. CellRules 4 t 1 (cells_of sheet has j)) (sym (sheet_tips j))
      (record {
        columns = omega arith;
        count = list_long has.tips (cell_of sheet has j) ∙ sym (mul-one has.tips);
        filled = λ i h. let one = mul-one has.tips in
            let is = list_at has.tips (cell_of sheet has j) i (omega arith) in
            let cell = (sheet_cell j i hj (omega arith)).1 in
            omega arith;
        bits = λ i h. let one = mul-one has.tips in
            let is = list_at has.tips (cell_of sheet has j) i (omega arith) in
            let cell = (sheet_cell j i hj (omega arith)).2 in
            omega arith;
      })

  -- the table of column j is allowed
  pub sheet_allowed : (j : ℕ) → j < has.columns → Allowed (table_of sheet has j)
  sheet_allowed j hj =
      record {
        legal = sheet_legal;
        costs = sheet_costs_lem;
        cells = sheet_cells j hj;
        handed = none_handed 4 1 (tips_in handed (table_of sheet has j)) (sheet_handed j);
      }

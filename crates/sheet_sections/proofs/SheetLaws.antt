-- What a sheet that is read up to its tree line has, in words: its names, cells and costs keep their rules.
-- Assumes nothing.
use mathlib.Core.List.{List, []}
use mathlib.Core.Logic.{⊎_elim}
use mathlib.Core.Path.{◌≡◌, refl, sym, subst, ◌∙◌}
use Prim.Native.Nat.{ℕ, ◌+◌, ◌≤◌}
use native.Mathlib.Omega.{arith}
use Rattle.std.proofs.Common.{Result, Ok, Err}
use Rattle.sheet_cells.proofs.CellLaws.{CellsRead, cells_read}
use Rattle.sheet_cells.specs.Cells.{matrix_of}
use Rattle.sheet_cells.specs.declared.Matrix.{Matrix}
use Rattle.sheet_costs.proofs.CostLaws.{costs_count}
use Rattle.sheet_costs.proofs.TableLaws.{costs_rules}
use Rattle.sheet_costs.specs.CostRules.{TableRules}
use Rattle.sheet_costs.specs.Costs.{costs_of}
use Rattle.sheet_lines.proofs.CountLaws.{count_read}
use Rattle.sheet_lines.specs.Bytes.{bytes}
use Rattle.sheet_lines.specs.Count.{count_of}
use Rattle.sheet_lines.specs.Counting.{on_count}
use Rattle.sheet_lines.specs.declared.Fault.{Fault}
use Rattle.sheet_names.proofs.NamesLaws.{names_count, names_read}
use Rattle.sheet_names.specs.Names.{names_of}
use Rattle.sheet_sections.specs.Sheet.{Rest, GivesSections, on_matrix, refused, tree_from, costs_from, columns_from}
use Rattle.sheet_sections.specs.Sheet.{sheet_of}
use Rattle.sheet_sections.specs.SheetRead.{RestRead, SheetRead}
use Rattle.sheet_sections.specs.declared.Sections.{Sections}

not_sound : {A : Type 0} {f : Fault} {s : Sections} → ◌≡◌ {A = Result Sections Fault} (Err f) (Ok s) → A
not_sound e = let z : ◌≡◌ {A = ℕ} 0 1 = cc in absurd (omega arith)

same_sound : {s r : Sections} → ◌≡◌ {A = Result Sections Fault} (Ok s) (Ok r) → s ≡ r
same_sound e = cc

module _ (sheet : List ℕ) (s : Sections) where
  tree_read : (costs : List (List ℕ)) (t c cells k at next : ℕ) → k ≤ 4 → CellsRead sheet t c cells next
      → TableRules costs
      → (tree_from sheet costs t c cells k at).reading ≡ Ok s
      → RestRead sheet t (tree_from sheet costs t c cells k at).costs s
  unfolding tree_from on_count refused
  tree_read costs t c cells k at next few read rules e =
      by_count (count_of (bytes "tree ") 1 1 sheet at (t + t + 4 + k)) refl e
    where
      whole : ℕ → Rest
      whole tree =
          record {
            reading = Ok (record { tips = t; columns = c; cells = cells; tree = tree; line = t + t + 5 + k });
            costs = costs;
          }

      by_count : (p : Result (ℕ × ℕ) Fault) → count_of (bytes "tree ") 1 1 sheet at (t + t + 4 + k) ≡ p
          → (on_count p (refused costs) (λ one tree. whole tree)).reading ≡ Ok s
          → RestRead sheet t (on_count p (refused costs) (λ one tree. whole tree)).costs s
      by_count (Err f) r h = not_sound h
      by_count (Ok (one, tree)) r h =
          let count = count_read (bytes "tree ") 1 1 sheet at (t + t + 4 + k) one tree r in
          subst (RestRead sheet t costs) (same_sound h)
          (record {
            tips = refl;
            columns = read.columns;
            rows = read.rows;
            priced = rules;
            tree = count.inside;
            line = omega (arith, few);
          })

  costs_read : (t c cells at : ℕ) → CellsRead sheet t c cells at → (costs_from sheet t c cells at).reading ≡ Ok s
      → RestRead sheet t (costs_from sheet t c cells at).costs s
  unfolding costs_from on_count refused
  costs_read t c cells at read e = by_count (costs_of sheet at (t + t + 3)).count refl e
    where
      items : List (List ℕ)
      items = (costs_of sheet at (t + t + 3)).items

      by_count : (p : Result (ℕ × ℕ) Fault) → (costs_of sheet at (t + t + 3)).count ≡ p
          → (on_count p (refused items) (tree_from sheet items t c cells)).reading ≡ Ok s
          → RestRead sheet t (on_count p (refused items) (tree_from sheet items t c cells)).costs s
      by_count (Err f) r h = not_sound h
      by_count (Ok (k, next)) r h =
          tree_read items t c cells k next at
          (⊎_elim (λ z. omega arith) (λ z. omega arith) (costs_count sheet at (t + t + 3) k next r)) read
          (costs_rules sheet at (t + t + 3) k next r) h

  columns_read : (t at : ℕ) → (columns_from sheet t at).reading ≡ Ok s
      → RestRead sheet t (columns_from sheet t at).costs s
  unfolding columns_from on_matrix refused
  columns_read t at e = by_matrix (matrix_of t sheet at (t + 2)) refl e
    where
      by_matrix : (m : Result Matrix Fault) → matrix_of t sheet at (t + 2) ≡ m
          → (on_matrix m (refused []) (costs_from sheet t)).reading ≡ Ok s
          → RestRead sheet t (on_matrix m (refused []) (costs_from sheet t)).costs s
      by_matrix (Err f) r h = not_sound h
      by_matrix (Ok m) r h =
          costs_read t m.columns m.cells m.next (cells_read t sheet at (t + 2) m r) h

  -- a sheet that is read has names, cells and costs that keep their rules
  pub sheet_read : (sheet_of sheet).rest.reading ≡ Ok s
      → SheetRead sheet (sheet_of sheet).names (sheet_of sheet).rest.costs s
  unfolding sheet_of on_count refused
  sheet_read e = by_count (names_of sheet 0 1).count refl e
    where
      by_count : (p : Result (ℕ × ℕ) Fault) → (names_of sheet 0 1).count ≡ p
          → (on_count p (refused []) (columns_from sheet)).reading ≡ Ok s
          → SheetRead sheet (names_of sheet 0 1).items (on_count p (refused []) (columns_from sheet)).costs s
      by_count (Err f) r h = not_sound h
      by_count (Ok (t, next)) r h =
          let rest = columns_read t next h in
          let tips = rest.tips in
          let count = names_count sheet 0 1 t next r in
          let names = names_read sheet 0 1 t next r in
          record {
            enough = omega (arith, count.0);
            few = omega (arith, count.1);
            size = names.0 ∙ sym tips;
            named = names.1;
            rest = subst (λ n. RestRead sheet n (columns_from sheet t next).costs s) (sym tips) rest;
          }

-- no second outcome meets the promise of the sheet's reader
pub sheet_unique : (sheet names : List ℕ) (table : List (List ℕ)) {a b : Result Sections Fault} {n m : List ℕ}
    {t u : List (List ℕ)}
    → GivesSections (sheet_of sheet) a names n table t → GivesSections (sheet_of sheet) b names m table u
    → (a ≡ b) × (n ≡ m) × (t ≡ u)
sheet_unique sheet names table one two = (
  one.rest.said ∙ sym two.rest.said,
  one.named ∙ sym two.named,
  one.rest.priced ∙ sym two.rest.priced,
)

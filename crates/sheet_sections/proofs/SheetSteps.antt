-- The sheet up to its tree line, section by section.
-- Assumes nothing.
use mathlib.Core.List.{List, []}
use mathlib.Core.Path.{◌≡◌, refl, sym, ap, ◌∙◌}
use Prim.Native.Nat.{ℕ, ◌+◌}
use Rattle.std.proofs.Common.{Result, Ok, Err}
use Rattle.sheet_cells.specs.Cells.{matrix_of}
use Rattle.sheet_cells.specs.declared.Matrix.{Matrix}
use Rattle.sheet_costs.specs.Costs.{costs_of}
use Rattle.sheet_lines.specs.Bytes.{bytes}
use Rattle.sheet_lines.specs.Count.{count_of}
use Rattle.sheet_lines.specs.Counting.{GivesCount, on_count}
use Rattle.sheet_lines.specs.Section.{wrote}
use Rattle.sheet_lines.specs.declared.Fault.{Fault}
use Rattle.sheet_names.specs.Names.{names_of}
use Rattle.sheet_sections.specs.Sheet.{GivesRest, GivesSections, on_matrix, refused, tree_from, costs_from}
use Rattle.sheet_sections.specs.Sheet.{columns_from, sheet_of}
use Rattle.sheet_sections.specs.declared.Sections.{Sections}

count_wrong {ℓ} : {A : Type ℓ} (count : Result (ℕ × ℕ) Fault) (f : Fault) (bad : Fault → A) (go : ℕ → ℕ → A)
    → count ≡ Err f
    → on_count count bad go ≡ bad f
unfolding on_count
count_wrong count f bad go e = ap (λ n. on_count n bad go) e

count_right {ℓ} : {A : Type ℓ} (count : Result (ℕ × ℕ) Fault) (n next : ℕ) (bad : Fault → A) (go : ℕ → ℕ → A)
    → count ≡ Ok (n, next)
    → on_count count bad go ≡ go n next
unfolding on_count
count_right count n next bad go e = ap (λ k. on_count k bad go) e

matrix_wrong {ℓ} : {A : Type ℓ} (matrix : Result Matrix Fault) (f : Fault) (bad : Fault → A) (go : ℕ → ℕ → ℕ → A)
    → matrix ≡ Err f → on_matrix matrix bad go ≡ bad f
unfolding on_matrix
matrix_wrong matrix f bad go e = ap (λ n. on_matrix n bad go) e

matrix_right {ℓ} : {A : Type ℓ} (matrix : Result Matrix Fault) (m : Matrix) (bad : Fault → A) (go : ℕ → ℕ → ℕ → A)
    → matrix ≡ Ok m → on_matrix matrix bad go ≡ go m.columns m.cells m.next
unfolding on_matrix
matrix_right matrix m bad go e = ap (λ n. on_matrix n bad go) e

-- a fault before any cost: the table is as it was
nothing : (f : Fault) (table : List (List ℕ)) {answer : Result Sections Fault} → answer ≡ Err f
    → GivesRest (refused [] f) answer table table
unfolding refused wrote
nothing f table e = record { said = e; priced = refl }

module _ (sheet : List ℕ) (t c cells at : ℕ) (count : Result (ℕ × ℕ) Fault) (table table₁ : List (List ℕ))
    (priced : GivesCount (costs_of sheet at (t + t + 3)) count table table₁) where
  -- no costs
  pub rest_no_costs : (f : Fault) {answer : Result Sections Fault} → count ≡ Err f → answer ≡ Err f
      → GivesRest (costs_from sheet t c cells at) answer table table₁
  unfolding costs_from refused
  rest_no_costs f e said =
      rw (count_wrong (costs_of sheet at (t + t + 3)).count f _ _ (sym priced.said ∙ e))
      (record { said = said; priced = priced.written })

  module _ (k next : ℕ) (paid : count ≡ Ok (k, next)) where
    after_costs : costs_from sheet t c cells at ≡ tree_from sheet (costs_of sheet at (t + t + 3)).items t c cells k next
    unfolding costs_from
    after_costs = count_right _ k next _ _ (sym priced.said ∙ paid)

    -- no count of trees
    pub rest_no_tree : (f : Fault) {answer : Result Sections Fault}
        → count_of (bytes "tree ") 1 1 sheet next (t + t + 4 + k) ≡ Err f → answer ≡ Err f
        → GivesRest (costs_from sheet t c cells at) answer table table₁
    unfolding tree_from refused
    rest_no_tree f e said =
        rw (after_costs ∙ count_wrong _ f _ _ e)
        (record { said = said; priced = priced.written })

    -- the place of the tree line
    pub rest_whole : (one tree : ℕ) → count_of (bytes "tree ") 1 1 sheet next (t + t + 4 + k) ≡ Ok (one, tree)
        → GivesRest (costs_from sheet t c cells at)
        (Ok (record { tips = t; columns = c; cells = cells; tree = tree; line = t + t + 5 + k })) table table₁
    unfolding tree_from
    rest_whole one tree e =
        rw (after_costs ∙ count_right _ one tree _ _ e)
        (record { said = refl; priced = priced.written })

module _ (sheet : List ℕ) (t at : ℕ) (table : List (List ℕ)) where
  -- no cells
  pub rest_no_cells : (f : Fault) {answer : Result Sections Fault} → matrix_of t sheet at (t + 2) ≡ Err f
      → answer ≡ Err f → GivesRest (columns_from sheet t at) answer table table
  unfolding columns_from
  rest_no_cells f e said = rw (matrix_wrong (matrix_of t sheet at (t + 2)) f _ _ e) (nothing f table said)

  -- the cells, and what follows
  pub rest_cells : (m : Matrix) (answer : Result Sections Fault) (table₁ : List (List ℕ))
      → matrix_of t sheet at (t + 2) ≡ Ok m
      → GivesRest (costs_from sheet t m.columns m.cells m.next) answer table table₁
      → GivesRest (columns_from sheet t at) answer table table₁
  unfolding columns_from
  rest_cells m answer table₁ e gives =
      rw (matrix_right (matrix_of t sheet at (t + 2)) m _ _ e) gives

module _ (sheet names names₁ : List ℕ) (table : List (List ℕ)) (count : Result (ℕ × ℕ) Fault)
    (named : GivesCount (names_of sheet 0 1) count names names₁) where
  -- no names
  pub sheet_no_names : (f : Fault) {answer : Result Sections Fault} → count ≡ Err f → answer ≡ Err f
      → GivesSections (sheet_of sheet) answer names names₁ table table
  unfolding sheet_of
  sheet_no_names f e said =
      record {
        rest = rw (count_wrong (names_of sheet 0 1).count f _ _ (sym named.said ∙ e)) (nothing f table said);
        named = named.written;
      }

  -- the names, and what follows
  pub sheet_names : (t next : ℕ) (answer : Result Sections Fault) (table₁ : List (List ℕ)) → count ≡ Ok (t, next)
      → GivesRest (columns_from sheet t next) answer table table₁
      → GivesSections (sheet_of sheet) answer names names₁ table table₁
  unfolding sheet_of
  sheet_names t next answer table₁ e gives =
      record {
        rest = rw (count_right (names_of sheet 0 1).count t next _ _ (sym named.said ∙ e)) gives;
        named = named.written;
      }

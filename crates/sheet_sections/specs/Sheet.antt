-- The sheet up to its tree line: names, columns, costs and the count of trees, in this order.
-- Assumes nothing.
use Rattle.std.specs.Prelude.{Result, Ok, Err, List, [], ◌≡◌, ℕ, ◌+◌}
use Rattle.sheet_cells.specs.Cells.{matrix_of}
use Rattle.sheet_cells.specs.declared.Matrix.{Matrix}
use Rattle.sheet_costs.specs.Costs.{costs_of}
use Rattle.sheet_lines.specs.Bytes.{bytes}
use Rattle.sheet_lines.specs.Count.{count_of}
use Rattle.sheet_lines.specs.Counting.{on_count}
use Rattle.sheet_lines.specs.Section.{wrote}
use Rattle.sheet_lines.specs.declared.Fault.{Fault}
use Rattle.sheet_names.specs.Names.{names_of}
use Rattle.sheet_sections.specs.declared.Sections.{Sections}

-- what the sheet from some section on gives: the answer, and the rows of its cost table up to the first fault
pub record Rest : Type 0 where
  pub reading : Result Sections Fault
  pub costs : List (List ℕ)

-- what a sheet up to its tree line gives: the places of its names up to the first fault, and the rest
pub record SheetParts : Type 0 where
  pub names : List ℕ
  pub rest : Rest

-- a fault, after some rows of the cost table
unfoldable pub refused : List (List ℕ) → Fault → Rest
refused costs fault = record { reading = Err fault; costs = costs }

-- what follows from the cells, or from a fault
unfoldable pub on_matrix {ℓ} : {A : Type ℓ} → Result Matrix Fault → (Fault → A) → (ℕ → ℕ → ℕ → A) → A
on_matrix (Ok m) bad go = go m.columns m.cells m.next
on_matrix (Err fault) bad go = bad fault

-- the count of trees, after t names, c columns with their first cell at a place, and a cost table of the count k
unfoldable pub tree_from : List ℕ → List (List ℕ) → ℕ → ℕ → ℕ → ℕ → ℕ → Rest
unfolding bytes count_of on_count refused
tree_from sheet costs t c cells k at =
    on_count (count_of (bytes "tree ") 1 1 sheet at (t + t + 4 + k)) (refused costs)
    (λ one tree. record {
      reading = Ok (record { tips = t; columns = c; cells = cells; tree = tree; line = t + t + 5 + k });
      costs = costs;
    })

-- the costs and what follows, after t names and c columns with their first cell at a place
unfoldable pub costs_from : List ℕ → ℕ → ℕ → ℕ → ℕ → Rest
unfolding on_count refused costs_of tree_from
costs_from sheet t c cells at =
    on_count (costs_of sheet at (t + t + 3)).count (refused (costs_of sheet at (t + t + 3)).items)
    (tree_from sheet (costs_of sheet at (t + t + 3)).items t c cells)

-- the columns and what follows, after t names
unfoldable pub columns_from : List ℕ → ℕ → ℕ → Rest
unfolding on_matrix refused matrix_of costs_from
columns_from sheet t at = on_matrix (matrix_of t sheet at (t + 2)) (refused []) (costs_from sheet t)

-- the whole, from line 1 on
unfoldable pub sheet_of : List ℕ → SheetParts
unfolding on_count refused names_of columns_from
sheet_of sheet =
    record {
      names = (names_of sheet 0 1).items;
      rest = on_count (names_of sheet 0 1).count (refused []) (columns_from sheet);
    }

-- what the reader from some section on gives: the answer, and the table that it fills
pub record GivesRest (given : Rest) (answer : Result Sections Fault) (table table₁ : List (List ℕ)) : Type 0 where
  pub said : answer ≡ given.reading
  pub priced : table₁ ≡ wrote given.costs table

-- what the reader of a sheet up to its tree line gives: the names' places that it fills in, and the rest
pub record GivesSections (given : SheetParts) (answer : Result Sections Fault) (names names₁ : List ℕ)
    (table table₁ : List (List ℕ)) : Type 0 where
  pub rest : GivesRest given.rest answer table table₁
  pub named : names₁ ≡ wrote given.names names

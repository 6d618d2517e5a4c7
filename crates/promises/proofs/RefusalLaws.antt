-- How each refusal comes about: the rules before it hold, and its own does not.
-- Assumes nothing.
use mathlib.Core.List.{List, [], ◌∷◌, ◌++◌}
use mathlib.Core.Path.{refl}
use Prim.Native.Nat.{ℕ, ◌≤◌, ◌<◌}
use Rattle.parsimony.specs.Allowed.{CostRules, CellRules, HandedRules}
use Rattle.parsimony.specs.Fault.{LowestFault}
use Rattle.parsimony.specs.Table.{SizeRules, TreeRules, symbol, handed}
use Rattle.parsimony.proofs.ShapeLaws.{fault_illegal}
use Rattle.promises.specs.Answers.{Given}
use Rattle.promises.specs.CallRules.{
  size_rule,
  shape_rule,
  costs_rule,
  cells_rule,
  rows_rule,
  which_rule,
  unit_rule,
  room_rule,
  matrix_rules,
  table_rules,
  UnitTable,
  Fits,
  score_rules,
  count_rules,
}
use Rattle.promises.specs.Input.{Input, nodes, node_in, tips_in}
use Rattle.promises.specs.Rules.{Rule, All}
use Rattle.std.specs.Prelude.{Err}
use Rattle.promises.specs.declared.Refusal.TheVariants.{Size, Shape, Costs, Cells, Rows, Which, NotUnit, Room}
use Rattle.promises.proofs.AnswerLaws.{refused_here}
use Rattle.promises.proofs.RuleLaws.{all_then}

-- the table

module _ (I : Input) where
  pub size_refused : (SizeRules I.left I.right → ⊥) → Given (matrix_rules I) I (Err Size)
  size_refused fails =
      refused_here [] (shape_rule I ∷ costs_rule I ∷ cells_rule I ∷ []) (size_rule I) I Size tt fails refl tt

  module _ (size : SizeRules I.left I.right) where
    size_all : All (size_rule I ∷ [])
    size_all = all_then [] (size_rule I) tt size

    pub shape_refused : (v : ℕ) → LowestFault (nodes I) (node_in I) v → Given (matrix_rules I) I (Err (Shape v))
    shape_refused v fault =
        refused_here (size_rule I ∷ []) (costs_rule I ∷ cells_rule I ∷ []) (shape_rule I) I (Shape v) size_all
        (fault_illegal (nodes I) (node_in I) v fault) refl fault

    module _ (tree : TreeRules (nodes I) (node_in I)) where
      tree_all : All (size_rule I ∷ shape_rule I ∷ [])
      tree_all = all_then (size_rule I ∷ []) (shape_rule I) size_all tree

      pub costs_refused : (CostRules I.s I.costs → ⊥) → Given (matrix_rules I) I (Err Costs)
      costs_refused fails =
          refused_here (size_rule I ∷ shape_rule I ∷ []) (cells_rule I ∷ []) (costs_rule I) I Costs tree_all fails refl tt

      module _ (costs : CostRules I.s I.costs) where
        costs_all : All (size_rule I ∷ shape_rule I ∷ costs_rule I ∷ [])
        costs_all = all_then (size_rule I ∷ shape_rule I ∷ []) (costs_rule I) tree_all costs

        pub cells_refused : (CellRules I.s (tips_in symbol I) I.c I.cells → ⊥)
            → Given (matrix_rules I) I (Err Cells)
        cells_refused fails =
            refused_here (size_rule I ∷ shape_rule I ∷ costs_rule I ∷ []) [] (cells_rule I) I Cells costs_all fails refl tt

  pub rows_refused : All (matrix_rules I) → (HandedRules I.s I.c (tips_in handed I) I.handed → ⊥)
      → Given (table_rules I) I (Err Rows)
  rows_refused all fails = refused_here (matrix_rules I) [] (rows_rule I) I Rows all fails refl tt

-- a call that asks for a column

module _ (I : Input) (Asked Fit : Type 0) (all : All (table_rules I)) where
  abbrev rules : List Rule
  rules = table_rules I ++ (which_rule Asked ∷ room_rule Fit ∷ [])

  pub which_refused : (Asked → ⊥) → Given rules I (Err Which)
  which_refused fails = refused_here (table_rules I) (room_rule Fit ∷ []) (which_rule Asked) I Which all fails refl tt

  asked_all : Asked → All (table_rules I ++ (which_rule Asked ∷ []))
  asked_all asked = all_then (table_rules I) (which_rule Asked) all asked

  pub room_refused : Asked → (Fit → ⊥) → Given rules I (Err Room)
  room_refused asked fails =
      refused_here (table_rules I ++ (which_rule Asked ∷ [])) [] (room_rule Fit) I Room (asked_all asked) fails refl tt

-- scoring

module _ (I : Input) (scores rows : ℕ) (all : All (table_rules I)) where
  abbrev Fit : Type 0
  Fit = Fits I I.c scores rows

  pub score_room_refused : (Fit → ⊥) → Given (score_rules I scores rows) I (Err Room)
  score_room_refused fails = refused_here (table_rules I) [] (room_rule Fit) I Room all fails refl tt

-- counting by sets

module _ (I : Input) (j sets : ℕ) (all : All (matrix_rules I)) where
  abbrev inside : Rule
  inside = which_rule (j < I.c)

  abbrev unit : Rule
  unit = unit_rule (UnitTable I)

  abbrev fit : Rule
  fit = room_rule (nodes I ≤ sets)

  pub count_which_refused : (j < I.c → ⊥) → Given (count_rules I j sets) I (Err Which)
  count_which_refused fails = refused_here (matrix_rules I) (unit ∷ fit ∷ []) inside I Which all fails refl tt

  inside_all : j < I.c → All (matrix_rules I ++ (inside ∷ []))
  inside_all column = all_then (matrix_rules I) inside all column

  pub unit_refused : j < I.c → (UnitTable I → ⊥) → Given (count_rules I j sets) I (Err NotUnit)
  unit_refused column fails =
      refused_here (matrix_rules I ++ (inside ∷ [])) (fit ∷ []) unit I NotUnit (inside_all column) fails refl tt

  unit_all : j < I.c → UnitTable I → All (matrix_rules I ++ (inside ∷ unit ∷ []))
  unit_all column units = all_then (matrix_rules I ++ (inside ∷ [])) unit (inside_all column) units

  pub count_room_refused : j < I.c → UnitTable I → (nodes I ≤ sets → ⊥) → Given (count_rules I j sets) I (Err Room)
  count_room_refused column units fails =
      refused_here (matrix_rules I ++ (inside ∷ unit ∷ [])) [] fit I Room (unit_all column units) fails refl tt

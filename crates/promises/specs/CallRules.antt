-- What each call requires, in the order of the numbers.
-- Assumes nothing.
use Rattle.std.specs.Prelude.{List, [], ◌∷◌, ◌++◌, ◌≡◌, ℕ, ◌*◌, ◌<◌, ◌≤◌}
use Rattle.parsimony.specs.Allowed.{CostRules, CellRules, HandedRules}
use Rattle.parsimony.specs.Column.{cost_at}
use Rattle.parsimony.specs.Counting.{UnitCosts}
use Rattle.parsimony.specs.Table.{Legal, SizeRules, TreeRules, symbol, handed}
use Rattle.promises.specs.Input.{Input, nodes, node_in, tips_in}
use Rattle.promises.specs.Rules.{Rule, rule}
use Rattle.promises.specs.Starts.{StateStart, SetStart}
use Rattle.promises.specs.Input.{Start}

-- SIZE, SHAPE, COSTS, CELLS and ROWS
abbrev pub size_rule : Input → Rule
size_rule I = rule 1 (SizeRules I.left I.right)

abbrev pub shape_rule : Input → Rule
shape_rule I = rule 2 (TreeRules (nodes I) (node_in I))

abbrev pub costs_rule : Input → Rule
costs_rule I = rule 3 (CostRules I.s I.costs)

abbrev pub cells_rule : Input → Rule
cells_rule I = rule 4 (CellRules I.s (tips_in symbol I) I.c I.cells)

abbrev pub rows_rule : Input → Rule
rows_rule I = rule 5 (HandedRules I.s I.c (tips_in handed I) I.handed)

-- WHICH, NOT UNIT and ROOM: what each call asks of its column and start, of its costs and tips, and of the lists lent
abbrev pub which_rule : Type 0 → Rule
which_rule asks = rule 6 asks

abbrev pub unit_rule : Type 0 → Rule
unit_rule asks = rule 7 asks

abbrev pub room_rule : Type 0 → Rule
room_rule asks = rule 8 asks

-- SIZE to CELLS
abbrev pub matrix_rules : Input → List Rule
matrix_rules I = size_rule I ∷ shape_rule I ∷ costs_rule I ∷ cells_rule I ∷ []

-- SIZE to ROWS
abbrev pub table_rules : Input → List Rule
table_rules I = matrix_rules I ++ (rows_rule I ∷ [])

-- a table that keeps the rules SIZE to ROWS
pub record Allowed (I : Input) : Type 0 where
  pub legal : Legal I.left I.right
  pub costs : CostRules I.s I.costs
  pub cells : CellRules I.s (tips_in symbol I) I.c I.cells
  pub handed : HandedRules I.s I.c (tips_in handed I) I.handed

-- column j is one of the table, and the start may be given for it, where May says which may
pub record ColumnAsked (May : Input → ℕ → Start → Type 0) (I : Input) (j : ℕ) (start : Start) : Type 0 where
  pub inside : j < I.c
  pub may : May I j start

-- the costs are unit costs, and no tip is handed
pub record UnitTable (I : Input) : Type 0 where
  pub unit : UnitCosts I.s (cost_at I.s I.costs)
  pub none : tips_in handed I ≡ 0

-- an output of so many entries has room for those needed, and a row room of so many for all rows
pub record Fits (I : Input) (needed output rows : ℕ) : Type 0 where
  pub output_room : needed ≤ output
  pub row_room : nodes I * I.s ≤ rows

-- lists of so many states and sets have room for one each node, and a row room of so many for all rows
pub record FitsWork (I : Input) (states sets rows : ℕ) : Type 0 where
  pub state_room : nodes I ≤ states
  pub set_room : nodes I ≤ sets
  pub row_room : nodes I * I.s ≤ rows

-- scoring, with room for so many scores and row entries
abbrev pub score_rules : Input → ℕ → ℕ → List Rule
score_rules I scores rows = table_rules I ++ (room_rule (Fits I I.c scores rows) ∷ [])

-- marking column j from a start, where May says which may be given, with room for so many marks and row entries
abbrev pub started_rules : (Input → ℕ → Start → Type 0) → Input → ℕ → Start → ℕ → ℕ → List Rule
started_rules May I j start marks rows =
    table_rules I ++ (which_rule (ColumnAsked May I j start) ∷ room_rule (Fits I (nodes I) marks rows) ∷ [])

-- labelling column j from a start, with room for so many states and row entries
abbrev pub label_rules : Input → ℕ → Start → ℕ → ℕ → List Rule
label_rules = started_rules StateStart

-- the sets of column j from a start, with room for so many sets and row entries
abbrev pub sets_rules : Input → ℕ → Start → ℕ → ℕ → List Rule
sets_rules = started_rules SetStart

-- handing up column j, with room for so many entries and row entries
abbrev pub hand_up_rules : Input → ℕ → ℕ → ℕ → List Rule
hand_up_rules I j entries rows = table_rules I ++ (which_rule (j < I.c) ∷ room_rule (Fits I I.s entries rows) ∷ [])

-- the whole work on column j, with room for so many states, sets and row entries
abbrev pub work_rules : Input → ℕ → ℕ → ℕ → ℕ → List Rule
work_rules I j states sets rows =
    table_rules I ++ (which_rule (j < I.c) ∷ room_rule (FitsWork I states sets rows) ∷ [])

-- counting column j by sets, with room for so many sets; handed rows are not tested
abbrev pub count_rules : Input → ℕ → ℕ → List Rule
count_rules I j sets =
    matrix_rules I ++ (which_rule (j < I.c) ∷ unit_rule (UnitTable I) ∷ room_rule (nodes I ≤ sets) ∷ [])

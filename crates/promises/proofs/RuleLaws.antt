-- Laws of rules in an order. This file alone reads rules by their places: it takes the rules of each call apart into
-- named parts, and puts them together.
-- Assumes nothing.
use mathlib.Core.List.{List, [], ◌∷◌, ◌++◌}
use mathlib.Core.Logic.{inl, inr}
use mathlib.Core.Path.{◌≡◌, refl, ap, sym, ◌∙◌}
use Prim.Native.Nat.{ℕ, ◌*◌, ◌≤◌, ◌<◌}
use native.Mathlib.Nat.{mul-zero, zero-mul}
use native.Mathlib.Omega.{arith}
use Rattle.parsimony.specs.Allowed.{CostRules, CellRules, HandedRules}
use Rattle.parsimony.specs.Table.{Legal, symbol, handed}
use Rattle.promises.specs.CallRules.{
  table_rules,
  Allowed,
  ColumnAsked,
  UnitTable,
  Fits,
  FitsWork,
  score_rules,
  label_rules,
  sets_rules,
  hand_up_rules,
  work_rules,
  count_rules,
  matrix_rules,
  rows_rule,
  which_rule,
  unit_rule,
  room_rule,
}
use Rattle.promises.specs.Input.{Input, input, nodes, tips_in}
use Rattle.promises.specs.Rules.{Rule, All, First}
use Rattle.promises.specs.Starts.{StateStart, SetStart}
use Rattle.promises.specs.Input.{Start}

-- ---- any rules

-- rules that hold, and one more
pub all_then : (Rs : List Rule) (R : Rule) → All Rs → R.asks → All (Rs ++ (R ∷ []))
all_then [] R all holds = (holds, tt)
all_then (Q ∷ Rs) R all holds = (all.0, all_then Rs R all.1 holds)

-- where all hold, so do those before a place
pub all_before : (Rs Qs : List Rule) → All (Rs ++ Qs) → All Rs
all_before [] Qs all = tt
all_before (R ∷ Rs) Qs all = (all.0, all_before Rs Qs all.1)

-- and those from it on
pub all_after : (Rs Qs : List Rule) → All (Rs ++ Qs) → All Qs
all_after [] Qs all = all
all_after (R ∷ Rs) Qs all = all_after Rs Qs all.1

-- a rule that does not hold, after rules that do, is the first
pub first_here : (Rs Qs : List Rule) (R : Rule) → All Rs → (R.asks → ⊥) → First (Rs ++ (R ∷ Qs)) R.number
first_here [] Qs R all fails = inl (fails, refl)
first_here (Q ∷ Rs) Qs R all fails = inr (all.0, first_here Rs Qs R all.1 fails)

-- the first rule that fails is the first where more rules follow
pub first_more : (Rs Qs : List Rule) (k : ℕ) → First Rs k → First (Rs ++ Qs) k
first_more [] Qs k f = absurd f
first_more (R ∷ Rs) Qs k (inl here) = inl here
first_more (R ∷ Rs) Qs k (inr later) = inr (later.0, first_more Rs Qs k later.1)

-- where the first that fails has another number than the rule at the front, that rule holds
pub first_past : (R : Rule) (Rs : List Rule) (k : ℕ) → First (R ∷ Rs) k → (k ≡ R.number → ⊥) → R.asks
first_past R Rs k (inl here) other = absurd (other here.1)
first_past R Rs k (inr later) other = later.0

-- one number only is that of the first rule that fails
pub first_unique : (Rs : List Rule) (j k : ℕ) → First Rs j → First Rs k → j ≡ k
first_unique [] j k f g = absurd f
first_unique (R ∷ Rs) j k (inl a) (inl b) = a.1 ∙ sym b.1
first_unique (R ∷ Rs) j k (inl a) (inr b) = absurd (a.0 b.0)
first_unique (R ∷ Rs) j k (inr a) (inl b) = absurd (b.0 a.0)
first_unique (R ∷ Rs) j k (inr a) (inr b) = first_unique Rs j k a.1 b.1

-- none fails where all hold
pub all_not_first : (Rs : List Rule) (k : ℕ) → All Rs → First Rs k → ⊥
all_not_first [] k all f = f
all_not_first (R ∷ Rs) k all (inl here) = here.0 all.0
all_not_first (R ∷ Rs) k all (inr later) = all_not_first Rs k all.1 later.1

-- ---- the rules of a table

-- what the rules 1 to 4 give
pub record MatrixParts (I : Input) : Type 0 where
  pub legal : Legal I.left I.right
  pub costs : CostRules I.s I.costs
  pub cells : CellRules I.s (tips_in symbol I) I.c I.cells

pub matrix_parts : (I : Input) → All (matrix_rules I) → MatrixParts I
matrix_parts I r =
    record { legal = record { size = r.0; tree = r.1.0 }; costs = r.1.1.0; cells = r.1.1.1.0 }

pub matrix_all : (I : Input) → MatrixParts I → All (matrix_rules I)
matrix_all I p = (p.legal.size, (p.legal.tree, (p.costs, (p.cells, tt))))

-- with the rule 5 they are the rules of a table
pub table_all : (I : Input) → All (matrix_rules I) → HandedRules I.s I.c (tips_in handed I) I.handed
    → All (table_rules I)
table_all I all rows = all_then (matrix_rules I) (rows_rule I) all rows

-- the rules 1 to 5 give an allowed table, and an allowed table keeps them
pub table_allowed : (I : Input) → All (table_rules I) → Allowed I
table_allowed I r =
    let matrix = matrix_parts I (all_before (matrix_rules I) (rows_rule I ∷ []) r) in
    let rows = all_after (matrix_rules I) (rows_rule I ∷ []) r in
    record { legal = matrix.legal; costs = matrix.costs; cells = matrix.cells; handed = rows.0 }

pub allowed_table : (I : Input) → Allowed I → All (table_rules I)
allowed_table I a =
    table_all I (matrix_all I (record { legal = a.legal; costs = a.costs; cells = a.cells })) a.handed

-- no handed entries are right where no tip is handed
pub none_handed : (s c h : ℕ) → h ≡ 0 → HandedRules s c h []
none_handed s c h e =
    let places : c * h * s ≡ 0 = ap (λ k. c * k * s) e ∙ ap (λ k. k * s) (mul-zero c) ∙ zero-mul s in
    let rows : c * h ≡ 0 = ap (λ k. c * k) e ∙ mul-zero c in
    record {
      count = sym places;
      range = λ i i_in. absurd (omega arith);
      unbarred = λ i i_in. absurd (omega arith);
    }

-- so the rules 1 to 4 give an allowed table there
module _ (left right : List ℕ) (s : ℕ) (costs : List ℕ) (c : ℕ) (cells : List ℕ) where
  abbrev unhanded : Input
  unhanded = input left right s costs c cells []

  pub matrix_allowed : All (matrix_rules unhanded) → tips_in handed unhanded ≡ 0 → Allowed unhanded
  matrix_allowed r none =
      table_allowed unhanded (table_all unhanded r (none_handed s c (tips_in handed unhanded) none))

-- ---- the rules of a call

-- what the rules of a call give: an allowed table, what is asked of the column and the start, and the room
pub record Parts (I : Input) (Which Room : Type 0) : Type 0 where
  pub table : Allowed I
  pub which : Which
  pub room : Room

-- of a call that asks for a column
module _ (I : Input) (Which Room : Type 0) where
  abbrev rules : List Rule
  rules = table_rules I ++ (which_rule Which ∷ room_rule Room ∷ [])

  pub parts_of : All rules → Parts I Which Room
  parts_of r =
      let tail = all_after (table_rules I) (which_rule Which ∷ room_rule Room ∷ []) r in
      record {
        table = table_allowed I (all_before (table_rules I) (which_rule Which ∷ room_rule Room ∷ []) r);
        which = tail.0;
        room = tail.1.0;
      }

  pub call_all : All (table_rules I) → Which → Room → All rules
  call_all all which room =
      all_then (table_rules I ++ (which_rule Which ∷ [])) (room_rule Room)
      (all_then (table_rules I) (which_rule Which) all which)
      room

  pub rules_of : Parts I Which Room → All rules
  rules_of p = call_all (allowed_table I p.table) p.which p.room

-- scoring asks for no column
module _ (I : Input) (a b : ℕ) where
  pub score_parts : All (score_rules I a b) → Parts I (Unit {0}) (Fits I I.c a b)
  score_parts r =
      let tail = all_after (table_rules I) (room_rule (Fits I I.c a b) ∷ []) r in
      record {
        table = table_allowed I (all_before (table_rules I) (room_rule (Fits I I.c a b) ∷ []) r);
        which = tt;
        room = tail.0;
      }

  pub score_all : All (table_rules I) → Fits I I.c a b → All (score_rules I a b)
  score_all all room = all_then (table_rules I) (room_rule (Fits I I.c a b)) all room

  pub score_rules_lem : Allowed I → Fits I I.c a b → All (score_rules I a b)
  score_rules_lem table = score_all (allowed_table I table)

pub label_parts : (I : Input) (j : ℕ) (start : Start) (a b : ℕ) → All (label_rules I j start a b)
    → Parts I (ColumnAsked StateStart I j start) (Fits I (nodes I) a b)
label_parts I j start a b = parts_of I (ColumnAsked StateStart I j start) (Fits I (nodes I) a b)

pub sets_parts : (I : Input) (j : ℕ) (start : Start) (a b : ℕ) → All (sets_rules I j start a b)
    → Parts I (ColumnAsked SetStart I j start) (Fits I (nodes I) a b)
sets_parts I j start a b = parts_of I (ColumnAsked SetStart I j start) (Fits I (nodes I) a b)

pub hand_up_parts : (I : Input) (j a b : ℕ) → All (hand_up_rules I j a b) → Parts I (j < I.c) (Fits I I.s a b)
hand_up_parts I j a b = parts_of I (j < I.c) (Fits I I.s a b)

pub work_parts : (I : Input) (j a b d : ℕ) → All (work_rules I j a b d) → Parts I (j < I.c) (FitsWork I a b d)
work_parts I j a b d = parts_of I (j < I.c) (FitsWork I a b d)

-- set counting's rules give an allowed table too, since no tip is handed
pub record CountParts (I : Input) (j sets : ℕ) : Type 0 where
  pub table : Allowed I
  pub inside : j < I.c
  pub unit : UnitTable I
  pub room : nodes I ≤ sets

pub count_all : (I : Input) (j sets : ℕ) → All (matrix_rules I) → j < I.c → UnitTable I → nodes I ≤ sets
    → All (count_rules I j sets)
count_all I j sets all inside unit room =
    let Rs = matrix_rules I in
    let which = which_rule (j < I.c) in
    let units = unit_rule (UnitTable I) in
    all_then (Rs ++ (which ∷ units ∷ [])) (room_rule (nodes I ≤ sets))
    (all_then (Rs ++ (which ∷ [])) units (all_then Rs which all inside) unit) room

module _ (left right : List ℕ) (s : ℕ) (costs : List ℕ) (c : ℕ) (cells : List ℕ) (j sets : ℕ) where
  abbrev counted : Input
  counted = input left right s costs c cells []

  abbrev later : List Rule
  later = which_rule (j < c) ∷ unit_rule (UnitTable counted) ∷ room_rule (nodes counted ≤ sets) ∷ []

  pub count_parts : All (count_rules counted j sets) → CountParts counted j sets
  count_parts r =
      let tail = all_after (matrix_rules counted) later r in
      record {
        table = matrix_allowed left right s costs c cells (all_before (matrix_rules counted) later r)
            tail.1.0.none;
        inside = tail.0;
        unit = tail.1.0;
        room = tail.1.1.0;
      }

  pub count_rules_lem : CountParts counted j sets → All (count_rules counted j sets)
  count_rules_lem p =
      count_all counted j sets (all_before (matrix_rules counted) (rows_rule counted ∷ [])
      (allowed_table counted p.table))
      p.inside p.unit p.room

-- The paper's number and carried value of each answer, and when an answer is given.
-- Assumes nothing.
use Rattle.std.specs.Prelude.{List, ℕ, Result, Ok, Err}
use Rattle.parsimony.specs.Fault.{LowestFault}
use Rattle.promises.specs.Input.{Input, nodes, node_in}
use Rattle.promises.specs.Rules.{Rule, All, First}
use Rattle.promises.specs.declared.Refusal.{Refusal}
use Rattle.promises.specs.declared.Refusal.TheVariants.{Size, Shape, Costs, Cells, Rows, Which, NotUnit, Room}

-- the answer of a call: done, or refused
abbrev pub Answer : Type 0
Answer = Result (Unit {0}) Refusal

-- the answer of a call that gives a number when it is done
abbrev pub Valued : Type 0
Valued = Result ℕ Refusal

-- the paper's number of a refusal
abbrev pub refusal_number : Refusal → ℕ
refusal_number Size = 1
refusal_number (Shape v) = 2
refusal_number Costs = 3
refusal_number Cells = 4
refusal_number Rows = 5
refusal_number Which = 6
refusal_number NotUnit = 7
refusal_number Room = 8

-- the value that a refusal carries: SHAPE's node; no other carries anything, and 0 stands there
abbrev pub refusal_value : Refusal → ℕ
refusal_value Size = 0
refusal_value (Shape v) = v
refusal_value Costs = 0
refusal_value Cells = 0
refusal_value Rows = 0
refusal_value Which = 0
refusal_value NotUnit = 0
refusal_value Room = 0

-- the paper's number of an answer: 0 for done
abbrev pub number_of : Answer → ℕ
number_of (Ok u) = 0
number_of (Err r) = refusal_number r

-- the value that an answer carries: that of its refusal, else 0
abbrev pub carried_by : Answer → ℕ
carried_by (Ok u) = 0
carried_by (Err r) = refusal_value r

-- what a refusal carries is right for the input: SHAPE's is the lowest node at fault
abbrev pub Carries : Input → Refusal → Type 0
Carries I Size = Unit {0}
Carries I (Shape v) = LowestFault (nodes I) (node_in I) v
Carries I Costs = Unit {0}
Carries I Cells = Unit {0}
Carries I Rows = Unit {0}
Carries I Which = Unit {0}
Carries I NotUnit = Unit {0}
Carries I Room = Unit {0}

-- done: every rule holds; refused: the first rule that does not hold has the refusal's number, and it carries what it
-- should
abbrev pub GivenFor : List Rule → Input → Answer → Type 0
GivenFor rules I (Ok u) = All rules
GivenFor rules I (Err r) = First rules (refusal_number r) × Carries I r

-- the answer a is given under these rules for this input
pub record Given (rules : List Rule) (I : Input) (a : Answer) : Type 0 where
  pub given : GivenFor rules I a

-- done: what is written is right; refused: every lent list is as it was
abbrev pub LeftBy : Answer → Type 0 → Type 0 → Type 0
LeftBy (Ok u) untouched written = written
LeftBy (Err r) untouched written = untouched

-- an answer with a number, without it
abbrev pub answer_of : Valued → Answer
answer_of (Ok k) = Ok tt
answer_of (Err r) = Err r

-- and its number; a refusal has none, and 0 stands there
abbrev pub value_of : Valued → ℕ
value_of (Ok k) = k
value_of (Err r) = 0

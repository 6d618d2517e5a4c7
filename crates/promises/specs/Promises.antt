-- The promises of the table calls: the answer, and every entry of every list lent, with ' as the call leaves it.
-- Assumes nothing.
use Rattle.std.specs.Prelude.{List, ◌≡◌, ℕ, length}
use Rattle.promises.specs.Answers.{Given, LeftBy, answer_of, value_of}
use Rattle.promises.specs.CallRules.{score_rules, label_rules, sets_rules, hand_up_rules, work_rules, count_rules}
use Rattle.promises.specs.CallWrites.{
  StatesOf,
  SetsOf,
  EntriesOf,
  ScoresWritten,
  ColumnWritten,
  WorkWritten,
  CountWritten,
}
use Rattle.promises.specs.Input.{Input}
use Rattle.promises.specs.Rules.{Rule}
use Rattle.promises.specs.Answers.{Answer}
use Rattle.promises.specs.Input.{Start}
use Rattle.promises.specs.Answers.{Valued}

-- scoring
pub record Scored (I : Input) (scores rows : List ℕ) (a : Answer) (scores' rows' : List ℕ) : Type 0 where
  pub answer : Given (score_rules I (length scores) (length rows)) I a
  pub lists : LeftBy a ((scores' ≡ scores) × (rows' ≡ rows)) (ScoresWritten I scores rows scores' rows')

-- a call on column j that is lent an output and a row room: its answer is given under its rules, which go by the lengths
-- of both; refused, both are as they were; done, the output is as Output says, and the row room has the column's rows
pub record ColumnCalled (rules : ℕ → ℕ → List Rule) (I : Input) (j : ℕ) (Output : List ℕ → List ℕ → Type 0)
    (out rows : List ℕ) (a : Answer) (out' rows' : List ℕ) : Type 0 where
  pub answer : Given (rules (length out) (length rows)) I a
  pub lists : LeftBy a ((out' ≡ out) × (rows' ≡ rows)) (ColumnWritten I j Output out rows out' rows')

-- labelling column j from a start
abbrev pub Labelled : Input → ℕ → Start → List ℕ → List ℕ → Answer → List ℕ → List ℕ → Type 0
Labelled I j start = ColumnCalled (label_rules I j start) I j (StatesOf I j start)

-- the sets of column j from a start
abbrev pub SetsFound : Input → ℕ → Start → List ℕ → List ℕ → Answer → List ℕ → List ℕ → Type 0
SetsFound I j start = ColumnCalled (sets_rules I j start) I j (SetsOf I j start)

-- handing up column j
abbrev pub HandedUp : Input → ℕ → List ℕ → List ℕ → Answer → List ℕ → List ℕ → Type 0
HandedUp I j = ColumnCalled (hand_up_rules I j) I j (EntriesOf I j)

-- the whole work on column j; the answer's number is the score
pub record ColumnWorked (I : Input) (j : ℕ) (states sets rows : List ℕ) (a : Valued) (states' sets' rows' : List ℕ)
    : Type 0 where
  pub answer : Given (work_rules I j (length states) (length sets) (length rows)) I (answer_of a)
  pub lists : LeftBy (answer_of a) ((states' ≡ states) × (sets' ≡ sets) × (rows' ≡ rows))
      (WorkWritten I j states sets rows (value_of a) states' sets' rows')

-- counting column j by sets; the answer's number is the change count
pub record CountedBySets (I : Input) (j : ℕ) (sets : List ℕ) (a : Valued) (sets' : List ℕ) : Type 0 where
  pub answer : Given (count_rules I j (length sets)) I (answer_of a)
  pub lists : LeftBy (answer_of a) (sets' ≡ sets) (CountWritten I j sets (value_of a) sets')

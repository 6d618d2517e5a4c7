-- What the work on a table writes: every entry of every list lent, with ' as the work leaves it.
-- Assumes nothing.
use Rattle.std.specs.Prelude.{List, ◌≡◌, ℕ, suc, ◌-◌}
use Rattle.parsimony.specs.Counting.{counted_at}
use Rattle.parsimony.specs.Labelling.{IsScore}
use Rattle.parsimony.specs.Written.{Written, Below, Each}
use Rattle.promises.specs.Input.{Input, nodes, column}
use Rattle.promises.specs.Results.{IsLabelling, IsSet, IsEntry}
use Rattle.promises.specs.RowRoom.{Worked}
use Rattle.promises.specs.Input.{Start}
use Rattle.std.specs.Prelude.{None}

-- the n states of the labelling of column j from a start
abbrev pub StatesOf : Input → ℕ → Start → List ℕ → List ℕ → Type 0
StatesOf I j start = Written (Below (nodes I)) (IsLabelling (column I j) start)

-- the n sets of column j from a start
abbrev pub SetsOf : Input → ℕ → Start → List ℕ → List ℕ → Type 0
SetsOf I j start = Written (Below (nodes I)) (Each (nodes I) (IsSet (column I j) start))

-- the s entries that column j hands up
abbrev pub EntriesOf : Input → ℕ → List ℕ → List ℕ → Type 0
EntriesOf I j = Written (Below I.s) (Each I.s (IsEntry (column I j)))

-- what scoring has written: each column's score; the row room holds the last column, and is as it was if there is none
pub record ScoresWritten (I : Input) (scores rows scores' rows' : List ℕ) : Type 0 where
  pub each : Written (Below I.c) (Each I.c (λ j. IsScore (column I j))) scores scores'
  pub none : I.c ≡ 0 → rows' ≡ rows
  pub last : (j : ℕ) → suc j ≡ I.c → Worked I j rows rows'

-- what a call on column j has written: its output, as Output says, and the rows of the column
pub record ColumnWritten (I : Input) (j : ℕ) (Output : List ℕ → List ℕ → Type 0) (out rows out' rows' : List ℕ)
    : Type 0 where
  pub output : Output out out'
  pub worked : Worked I j rows rows'

-- labelling from a start writes n states, the set call n sets, handing up s entries
abbrev pub LabelsWritten : Input → ℕ → Start → List ℕ → List ℕ → List ℕ → List ℕ → Type 0
LabelsWritten I j start = ColumnWritten I j (StatesOf I j start)

abbrev pub SetsWritten : Input → ℕ → Start → List ℕ → List ℕ → List ℕ → List ℕ → Type 0
SetsWritten I j start = ColumnWritten I j (SetsOf I j start)

abbrev pub RowWritten : Input → ℕ → List ℕ → List ℕ → List ℕ → List ℕ → Type 0
RowWritten I j = ColumnWritten I j (EntriesOf I j)

-- what the whole work on column j has written and answered: n states and n sets, from no start, the rows, the score
pub record WorkWritten (I : Input) (j : ℕ) (states sets rows : List ℕ) (k : ℕ) (states' sets' rows' : List ℕ)
    : Type 0 where
  pub score : IsScore (column I j) k
  pub labels : StatesOf I j None states states'
  pub each : SetsOf I j None sets sets'
  pub worked : Worked I j rows rows'

-- node v has the preliminary set w
abbrev pub IsPrelim : Input → ℕ → ℕ → ℕ → Type 0
IsPrelim I j v w = w ≡ (counted_at I.left I.right I.c I.cells j v).set

-- what set counting has written and answered: n preliminary sets, and the change count, which is the column's score
pub record CountWritten (I : Input) (j : ℕ) (sets : List ℕ) (changes : ℕ) (sets' : List ℕ) : Type 0 where
  pub each : Written (Below (nodes I)) (Each (nodes I) (IsPrelim I j)) sets sets'
  pub count : changes ≡ (counted_at I.left I.right I.c I.cells j (nodes I - 1)).changes
  pub score : IsScore (column I j) changes

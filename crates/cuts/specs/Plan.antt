-- Plans: how a table is worked in pieces, and what is put together from the calls on them.
-- Assumes nothing.
use Rattle.std.specs.Prelude.{◌⊎◌, ℕ, ◌+◌, ◌-◌, ◌<◌, ◌≤◌}
use Rattle.promises.specs.Input.{Input}
use Rattle.promises.specs.Input.{Start}
use Rattle.std.specs.Prelude.{Some}
use Rattle.cuts.specs.Call.{ScoreCall, LabelCall, SetsCall, HandUpCall}
use Rattle.cuts.specs.Cut.{CutAt, part, rest, part_node, rest_node, span}

-- A table is worked whole, or cut at a node into part and rest, or cut at a column into two ranges. What is cut off is
-- worked by a plan of its own.
pub data Plan : Type 0 where
  whole : Plan
  -- the node; the plan of the part; the plan of the rest
  cut_at : ℕ → Plan → Plan → Plan
  -- how many columns come first; the plan of these; the plan of the others
  columns_at : ℕ → Plan → Plan → Plan

-- up has the rows that the table sends up, the column first and then the state. A part sends its rows into the rest.
abbrev pub SendsUp : Plan → Input → (ℕ → ℕ → ℕ) → Type 0
SendsUp whole I up = (j : ℕ) → j < I.c → HandUpCall I j (up j)
SendsUp (cut_at v below above) I up =
    CutAt I v × ((sent : ℕ → ℕ → ℕ) × (SendsUp below (part I v) sent × SendsUp above (rest I v sent) up))
SendsUp (columns_at m first second) I up =
    (m ≤ I.c) × (SendsUp first (span I 0 m) up × SendsUp second (span I m (I.c - m)) (λ j. up (m + j)))

-- S has the score of each column. The rest's scores are the table's.
abbrev pub ScoresBy : Plan → Input → (ℕ → ℕ) → Type 0
ScoresBy whole I S = ScoreCall I S
ScoresBy (cut_at v below above) I S =
    CutAt I v × ((sent : ℕ → ℕ → ℕ) × (SendsUp below (part I v) sent × ScoresBy above (rest I v sent) S))
ScoresBy (columns_at m first second) I S =
    (m ≤ I.c) × (ScoresBy first (span I 0 m) S × ScoresBy second (span I m (I.c - m)) (λ j. S (m + j)))

-- f has a value of each node in column j, from a start: its state by calls of labelling, or its set by calls for the
-- sets. On the rest's nodes it is what the rest gives; on the part's nodes what the part gives, started at what comes
-- down: the value that the rest gives its handed tip.
abbrev pub Comes : (Input → ℕ → Start → (ℕ → ℕ) → Type 0) → Plan → Input → ℕ → Start → (ℕ → ℕ) → Type 0
Comes Call whole I j start f = Call I j start f
Comes Call (cut_at v below above) I j start f =
    CutAt I v
    × ((sent : ℕ → ℕ → ℕ)
    × (SendsUp below (part I v) sent
    × (Comes Call above (rest I v sent) j start (λ i. f (rest_node I v sent i))
    × Comes Call below (part I v) j (Some (f v)) (λ i. f (part_node I v i)))))
Comes Call (columns_at m first second) I j start f =
    (m ≤ I.c)
    × (((j < m) × Comes Call first (span I 0 m) j start f)
    ⊎ ((m ≤ j) × Comes Call second (span I m (I.c - m)) (j - m) start f))

-- l has the state of each node in column j, from a start
abbrev pub LabelsBy : Plan → Input → ℕ → Start → (ℕ → ℕ) → Type 0
LabelsBy plan I j start l = Comes LabelCall plan I j start l

-- S has the set of each node in column j, from a start
abbrev pub SetsBy : Plan → Input → ℕ → Start → (ℕ → ℕ) → Type 0
SetsBy plan I j start S = Comes SetsCall plan I j start S

-- the plan's cuts are allowed on the table: on every piece, whatever rows the calls below it send, a node that is cut
-- is inner and not the root, and a first range has no more columns than there are
abbrev pub Suits : Plan → Input → Type 0
Suits whole I = Unit {0}
Suits (cut_at v below above) I =
    CutAt I v
    × (Suits below (part I v)
    × ((sent : ℕ → ℕ → ℕ) → SendsUp below (part I v) sent → Suits above (rest I v sent)))
Suits (columns_at m first second) I =
    (m ≤ I.c) × (Suits first (span I 0 m) × Suits second (span I m (I.c - m)))

-- every table on which the plan makes calls meets Q, whatever rows the calls below it send
abbrev pub Everywhere : (Input → Type 0) → Plan → Input → Type 0
Everywhere Q whole I = Q I
Everywhere Q (cut_at v below above) I =
    CutAt I v
    → Everywhere Q below (part I v)
    × ((sent : ℕ → ℕ → ℕ) → SendsUp below (part I v) sent → Everywhere Q above (rest I v sent))
Everywhere Q (columns_at m first second) I =
    m ≤ I.c → Everywhere Q first (span I 0 m) × Everywhere Q second (span I m (I.c - m))

-- Calls with room enough, by what they promise, and the tables that no such call refuses.
-- Assumes nothing.
use Rattle.std.specs.Prelude.{List, ◌≡◌, ℕ, ◌<◌, length}
use Rattle.parsimony.specs.Written.{entries}
use Rattle.promises.specs.Answers.{Given}
use Rattle.promises.specs.CallRules.{Fits, score_rules, label_rules, sets_rules, hand_up_rules}
use Rattle.promises.specs.Input.{Input, nodes}
use Rattle.promises.specs.Promises.{Scored, Labelled, SetsFound, HandedUp}
use Rattle.promises.specs.Starts.{StateStart, SetStart}
use Rattle.promises.specs.Answers.{Answer}
use Rattle.std.specs.Prelude.{Ok}
use Rattle.promises.specs.Input.{Start}

-- a call on table I, by what it promises of a lent output and the row room, with room for n entries, that leaves f i as
-- entry i of the output
pub record Call (I : Input) (n : ℕ) (Promise : List ℕ → List ℕ → Answer → List ℕ → List ℕ → Type 0) (f : ℕ → ℕ)
    : Type 0 where
  pub output : List ℕ
  pub rows : List ℕ
  pub answer : Answer
  pub output_after : List ℕ
  pub rows_after : List ℕ
  pub promise : Promise output rows answer output_after rows_after
  pub room : Fits I n (length output) (length rows)
  pub result : (i : ℕ) → i < n → f i ≡ entries output_after i

-- a call of scoring: S j is the score of each column j
abbrev pub ScoreCall : Input → (ℕ → ℕ) → Type 0
ScoreCall I S = Call I I.c (Scored I) S

-- a call of handing up column j: e x is the entry of each state x
abbrev pub HandUpCall : Input → ℕ → (ℕ → ℕ) → Type 0
HandUpCall I j e = Call I I.s (HandedUp I j) e

-- a call of labelling column j from a start: l v is the state of each node v
abbrev pub LabelCall : Input → ℕ → Start → (ℕ → ℕ) → Type 0
LabelCall I j start l = Call I (nodes I) (Labelled I j start) l

-- a call for the sets of column j from a start: S v is the set of each node v
abbrev pub SetsCall : Input → ℕ → Start → (ℕ → ℕ) → Type 0
SetsCall I j start S = Call I (nodes I) (SetsFound I j start) S

-- No call on the table is refused, given room, a column of it and a start that may be given for its root.
pub record Answers (I : Input) : Type 0 where
  pub score : (scores rows : ℕ) → Fits I I.c scores rows
      → (a : Answer) → Given (score_rules I scores rows) I a → a ≡ Ok tt
  pub label : (j : ℕ) (start : Start) (states rows : ℕ) → j < I.c → StateStart I j start → Fits I (nodes I) states rows
      → (a : Answer) → Given (label_rules I j start states rows) I a → a ≡ Ok tt
  pub sets : (j : ℕ) (start : Start) (sets rows : ℕ) → j < I.c → SetStart I j start → Fits I (nodes I) sets rows
      → (a : Answer) → Given (sets_rules I j start sets rows) I a → a ≡ Ok tt
  pub hand_up : (j row rows : ℕ) → j < I.c → Fits I I.s row rows
      → (a : Answer) → Given (hand_up_rules I j row rows) I a → a ≡ Ok tt

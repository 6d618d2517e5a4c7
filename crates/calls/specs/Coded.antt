-- Each call of the C interface: some answer meets the call's promise, and the code returned is its packing.
-- Assumes nothing.
use Rattle.std.specs.Prelude.{List, ◌≡◌, ℕ, ◌+◌}
use Rattle.promises.specs.Answers.{number_of, carried_by, answer_of, value_of}
use Rattle.promises.specs.Input.{Input}
use Rattle.promises.specs.Input.{Start}
use Rattle.promises.specs.Promises.{Scored, Labelled, SetsFound, HandedUp, CountedBySets}
use Rattle.promises.specs.Answers.{Valued}
use Rattle.answer_codes.specs.Codes.{packed, answer_code}

-- set counting's code: above the number the change count when done, SHAPE's node when refused
abbrev pub count_code : Valued → ℕ
count_code a = packed (number_of (answer_of a)) (carried_by (answer_of a) + value_of a)

-- the code of a call: some answer meets the promise, and the code is that answer packed
pub record Coded {A : Type 0} (pack : A → ℕ) (Promise : A → Type 0) (code : ℕ) : Type 0 where
  pub answer : A
  pub packed : code ≡ pack answer
  pub promise : Promise answer

-- the code of scoring, of labelling, of the set call, of handing up and of set counting
abbrev pub ScoredCode : Input → List ℕ → List ℕ → ℕ → List ℕ → List ℕ → Type 0
ScoredCode I scores rows code scores' rows' = Coded answer_code (λ a. Scored I scores rows a scores' rows') code

abbrev pub LabelledCode : Input → ℕ → Start → List ℕ → List ℕ → ℕ → List ℕ → List ℕ → Type 0
LabelledCode I j start states rows code states' rows' =
    Coded answer_code (λ a. Labelled I j start states rows a states' rows') code

abbrev pub SetsCode : Input → ℕ → Start → List ℕ → List ℕ → ℕ → List ℕ → List ℕ → Type 0
SetsCode I j start sets rows code sets' rows' =
    Coded answer_code (λ a. SetsFound I j start sets rows a sets' rows') code

abbrev pub HandedUpCode : Input → ℕ → List ℕ → List ℕ → ℕ → List ℕ → List ℕ → Type 0
HandedUpCode I j row rows code row' rows' = Coded answer_code (λ a. HandedUp I j row rows a row' rows') code

abbrev pub CountCode : Input → ℕ → List ℕ → ℕ → List ℕ → Type 0
CountCode I j sets code sets' = Coded count_code (λ a. CountedBySets I j sets a sets') code

-- What tests answer: they are passed, or a refusal is given.
-- Assumes nothing.
use Rattle.std.specs.Prelude.{List, ◌≡◌, ℕ, Result, Ok, Err}
use Rattle.parsimony.specs.Table.{handed}
use Rattle.promises.specs.Answers.{Given}
use Rattle.promises.specs.CallRules.{matrix_rules}
use Rattle.promises.specs.Input.{Input, input_of, tips_in}
use Rattle.promises.specs.Rules.{Rule, All}
use Rattle.promises.specs.declared.Refusal.{Refusal}
use Rattle.promises.specs.declared.sound.Sound.{Sound}

-- SIZE to CELLS hold, and h of the tips are handed
pub record MatrixPasses (I : Input) (h : ℕ) : Type 0 where
  pub all : All (matrix_rules I)
  pub tips : h ≡ tips_in handed I

-- passed: SIZE to CELLS hold; refused: the refusal is given
abbrev pub MatrixFor : Input → Result ℕ Refusal → Type 0
MatrixFor I (Ok h) = MatrixPasses I h
MatrixFor I (Err r) = Given (matrix_rules I) I (Err r)

-- the answer t of the tests SIZE to CELLS
pub record MatrixTests (I : Input) (t : Result ℕ Refusal) : Type 0 where
  pub tests : MatrixFor I t

-- every rule holds, and the table that has passed is the one that was tested
pub record Passes (rules : List Rule) (I : Input) (T : Sound) : Type 0 where
  pub all : All rules
  pub same : input_of T.table ≡ I

-- passed: every rule holds; refused: the refusal is given
abbrev pub TestsFor : List Rule → Input → Result Sound Refusal → Type 0
TestsFor rules I (Ok T) = Passes rules I T
TestsFor rules I (Err r) = Given rules I (Err r)

-- the answer t of tests for these rules
pub record Tests (rules : List Rule) (I : Input) (t : Result Sound Refusal) : Type 0 where
  pub tests : TestsFor rules I t

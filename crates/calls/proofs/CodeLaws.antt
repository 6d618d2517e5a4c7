-- The code of set counting, and a promise from a start that a number stands for.
-- Assumes nothing.
use mathlib.Core.List.{List, []}
use mathlib.Core.Path.{◌≡◌, subst}
use Prim.Native.Nat.{ℕ, ◌+◌, ◌*◌, ◌/◌, ◌%◌, ◌<◌}
use native.Mathlib.Omega.{arith}
use lib.ListN.{length}
use Rattle.parsimony.specs.Barred.{barred}
use Rattle.promises.specs.Answers.{number_of, carried_by, answer_of, value_of}
use Rattle.promises.specs.Input.{Input, input}
use Rattle.promises.specs.Answers.{Answer}
use Rattle.std.specs.Prelude.{Err}
use Rattle.promises.specs.Input.{Start}
use Rattle.promises.specs.Promises.{CountedBySets}
use Rattle.promises.specs.Answers.{Valued}
use Rattle.std.specs.Prelude.{Ok, Err}
use Rattle.promises.proofs.Meaning.{score_small}
use Rattle.promises.proofs.RuleLaws.{count_parts}
use Rattle.answer_codes.specs.Codes.{packed, answer_code}
use Rattle.answer_codes.proofs.CodeLaws.{packed_number, packed_carried, number_small, carried_small}
use Rattle.calls.specs.Coded.{count_code}

-- the code of a count, and of a refusal of set counting
pub done_code : (k : ℕ) → 256 * k ≡ packed 0 (0 + k)
done_code k = omega arith

pub refused_code : (a : Answer) → answer_code a ≡ packed (number_of a) (carried_by a + 0)
refused_code a = omega arith

-- packing loses nothing: the number, and the change count or SHAPE's node, are read back
pub count_number : (a : Valued) → count_code a % 256 ≡ number_of (answer_of a)
count_number a = packed_number _ _ (number_small (answer_of a))

pub count_carried : (a : Valued) → count_code a / 256 ≡ carried_by (answer_of a) + value_of a
count_carried a = packed_carried _ _ (number_small (answer_of a))

-- a call's promise from one start is its promise from another that is equal to it
pub promise_from : (Promise : Input → ℕ → Start → List ℕ → List ℕ → Answer → List ℕ → List ℕ → Type 0)
    {I : Input} {j : ℕ} {t u : Start} {list rows list' rows' : List ℕ} {a : Answer} → t ≡ u
    → Promise I j t list rows a list' rows' → Promise I j u list rows a list' rows'
promise_from Promise {I} {j} {list = list} {rows} {list'} {rows'} {a} e p =
    subst (λ t. Promise I j t list rows a list' rows') e p

-- what set counting carries and counts is small
pub counted_small : (left right : List ℕ) (s : ℕ) (costs : List ℕ) (c : ℕ) (cells : List ℕ) (j : ℕ)
    (sets sets' : List ℕ) (a : Valued) → CountedBySets (input left right s costs c cells []) j sets a sets'
    → (carried_by (answer_of a) < 1023) × (value_of a < barred)
counted_small left right s costs c cells j sets sets' (Ok k) p =
    let parts = count_parts left right s costs c cells j (length sets) p.answer.given in (
      omega arith,
      score_small (input left right s costs c cells []) parts.table j parts.inside k
          p.lists.score,
    )
counted_small left right s costs c cells j sets sets' (Err r) p =
    (carried_small (input left right s costs c cells []) _ (Err r) p.answer, omega arith)

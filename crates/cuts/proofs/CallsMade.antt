-- There are calls, with room, that leave what the definitions by rows give, on every table that keeps the rules.
-- Assumes nothing.
use mathlib.Core.List.{List}
use mathlib.Core.Path.{◌≡◌, sym, ◌∙◌}
use Prim.Native.Nat.{ℕ, ◌*◌, ◌-◌, ◌<◌}
use native.Mathlib.Omega.{arith}
use lib.ListN.{length, replicate, length-replicate}
use Rattle.parsimony.specs.Row.{row, score}
use Rattle.parsimony.specs.Written.{Each, entries}
use Rattle.promises.specs.CallRules.{Allowed, Fits}
use Rattle.promises.specs.Input.{Input, nodes, column}
use Rattle.promises.specs.Promises.{Scored, Labelled, SetsFound, HandedUp}
use Rattle.promises.specs.Starts.{StateStart, SetStart, labels_for, sets_for}
use Rattle.promises.specs.Answers.{Answer}
use Rattle.std.specs.Prelude.{Ok}
use Rattle.promises.specs.Input.{Start}
use Rattle.promises.proofs.CanBeMet.{score_done, hand_up_done, label_done, sets_done}
use Rattle.cuts.specs.Call.{Call, ScoreCall, HandUpCall, LabelCall, SetsCall}

-- zeros, so many that a call has room
zeros_fit : (I : Input) (n : ℕ)
    → Fits I n (length {A = ℕ} (replicate n 0)) (length {A = ℕ} (replicate (nodes I * I.s) 0))
zeros_fit I n =
    let output = length-replicate {A = ℕ} n 0 in
    let rows = length-replicate {A = ℕ} (nodes I * I.s) 0 in
    record { output_room = omega arith; row_room = omega arith }

-- A promise that can be met with room, by lists that have the right entries, gives a call that leaves them.
call_made : (I : Input) (n : ℕ) (Promise : List ℕ → List ℕ → Answer → List ℕ → List ℕ → Type 0) (right f : ℕ → ℕ)
    → ((output rows : List ℕ) → Fits I n (length output) (length rows)
    → (output' : List ℕ) × (rows' : List ℕ) × Promise output rows (Ok tt) output' rows'
    × Each n (λ i e. e ≡ right i) (entries output'))
    → ((i : ℕ) → i < n → f i ≡ right i) → Call I n Promise f
call_made I n Promise right f met same =
    let (output', rows', promise, holds) = met (replicate n 0) (replicate (nodes I * I.s) 0) (zeros_fit I n) in
    record {
      output = replicate n 0;
      rows = replicate (nodes I * I.s) 0;
      answer = Ok tt;
      output_after = output';
      rows_after = rows';
      promise = promise;
      room = zeros_fit I n;
      result = λ i h. same i h ∙ sym (holds i h);
    }

module _ (I : Input) (table : Allowed I) where
  -- There is a call of scoring that leaves the scores by rows.
  pub score_call_made : (S : ℕ → ℕ) → ((j : ℕ) → j < I.c → S j ≡ score (column I j)) → ScoreCall I S
  score_call_made S right = call_made I I.c (Scored I) (λ j. score (column I j)) S (score_done I table) right

  module _ (j : ℕ) (inside : j < I.c) where
    -- There is a call of handing up that leaves the root's row.
    pub hand_up_call_made : (e : ℕ → ℕ) → ((x : ℕ) → x < I.s → e x ≡ row (column I j) (nodes I - 1) x) → HandUpCall I j e
    hand_up_call_made e right =
        call_made I I.s (HandedUp I j) (row (column I j) (nodes I - 1)) e (hand_up_done I table j inside) right

    -- There is a call of labelling, from each start, that leaves the labelling by rows.
    pub label_call_made : (start : Start) → StateStart I j start → (l : ℕ → ℕ)
        → ((v : ℕ) → v < nodes I → l v ≡ labels_for (column I j) start v) → LabelCall I j start l
    label_call_made start fit l right =
        call_made I (nodes I) (Labelled I j start) (labels_for (column I j) start) l
        (label_done I table j inside start fit) right

    -- There is a call for the sets, from each start, that leaves the sets by rows.
    pub sets_call_made : (start : Start) → SetStart I j start → (S : ℕ → ℕ)
        → ((v : ℕ) → v < nodes I → S v ≡ sets_for (column I j) start v) → SetsCall I j start S
    sets_call_made start fit S right =
        call_made I (nodes I) (SetsFound I j start) (sets_for (column I j) start) S
        (sets_done I table j inside start fit) right

-- Calls on a table that may be cut are done, and their results are those of the definitions by rows.
-- Assumes nothing.
use mathlib.Core.List.{List}
use mathlib.Core.Path.{◌≡◌, ◌∙◌, subst}
use Prim.Native.Nat.{ℕ, ◌-◌, ◌<◌}
use Rattle.parsimony.specs.Column.{Column, column_of}
use Rattle.parsimony.specs.Row.{row, score}
use Rattle.parsimony.specs.Written.{entries}
use Rattle.promises.specs.CallRules.{Allowed}
use Rattle.promises.specs.Input.{Input, nodes, column}
use Rattle.promises.specs.Starts.{StateStart, SetStart, labels_for, sets_for}
use Rattle.promises.specs.Answers.{Answer}
use Rattle.std.specs.Prelude.{Ok}
use Rattle.promises.specs.Input.{Start}
use Rattle.promises.proofs.AnswerLaws.{all_done}
use Rattle.promises.proofs.Meaning.{score_meant, entry_meant, label_meant, set_meant}
use Rattle.promises.proofs.RuleLaws.{score_rules_lem, rules_of}
use Rattle.cuts.specs.Call.{Call, ScoreCall, HandUpCall, LabelCall, SetsCall, Answers}

-- No call on a table that keeps the rules is refused, given room, a column and a start.
pub rules_answer : (I : Input) → Allowed I → Answers I
rules_answer I table =
    record {
      score = λ scores rows room a. all_done _ I a (score_rules_lem I scores rows table room);
      label = λ j start states rows inside may room a. all_done _ I a
          (rules_of I _ _ (record { table = table; which = record { inside = inside; may = may }; room = room }));
      sets = λ j start sets rows inside may room a. all_done _ I a
          (rules_of I _ _ (record { table = table; which = record { inside = inside; may = may }; room = room }));
      hand_up = λ j row rows inside room a. all_done _ I a
          (rules_of I _ _ (record { table = table; which = inside; room = room }));
    }

-- what a call promises, where its answer is done
done_promise : {I : Input} {n : ℕ} {Promise : List ℕ → List ℕ → Answer → List ℕ → List ℕ → Type 0} {f : ℕ → ℕ}
    (call : Call I n Promise f) → call.answer ≡ Ok tt
    → Promise call.output call.rows (Ok tt) call.output_after call.rows_after
done_promise {Promise = Promise} call a =
    subst (λ b. Promise call.output call.rows b call.output_after call.rows_after) a call.promise

module _ (I : Input) (table : Allowed I) (j : ℕ) (inside : j < I.c) where
  abbrev P : Column
  P = column I j

  -- what a call of handing up leaves is the root's row
  pub hand_up_row : (e : ℕ → ℕ) → HandUpCall I j e → (x : ℕ) → x < I.s → e x ≡ row P (nodes I - 1) x
  unfolding column_of
  hand_up_row e call x h =
      let a = (rules_answer I table).hand_up j _ _ inside call.room call.answer call.promise.answer in
      let written = (done_promise call a).lists in
      call.result x h ∙ entry_meant I table j inside x _ h (written.output.right x h)

  -- what a call of scoring leaves is the score
  pub score_of : (S : ℕ → ℕ) → ScoreCall I S → S j ≡ score P
  score_of S call =
      let a = (rules_answer I table).score _ _ call.room call.answer call.promise.answer in
      let written = (done_promise call a).lists in
      call.result j inside ∙ score_meant I table j inside _ (written.each.right j inside)

  -- what a call of labelling leaves is the labelling by rows
  pub labels_of : (start : Start) (l : ℕ → ℕ) → StateStart I j start → LabelCall I j start l
      → (v : ℕ) → v < nodes I → l v ≡ labels_for P start v
  labels_of start l ok call v h =
      let a = (rules_answer I table).label j start _ _ inside ok call.room call.answer call.promise.answer in
      let written = (done_promise call a).lists in
      call.result v h
      ∙ label_meant I table j inside start (entries call.output_after) ok written.output.right v h

  -- what a call for the sets leaves are the sets by rows
  pub sets_of : (start : Start) (S : ℕ → ℕ) → SetStart I j start → SetsCall I j start S
      → (v : ℕ) → v < nodes I → S v ≡ sets_for P start v
  sets_of start S ok call v h =
      let a = (rules_answer I table).sets j start _ _ inside ok call.room call.answer call.promise.answer in
      let written = (done_promise call a).lists in
      call.result v h ∙ set_meant I table j inside start v _ ok h (written.output.right v h)

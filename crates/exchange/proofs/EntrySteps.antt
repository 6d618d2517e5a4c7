-- The turns of the entry: the sheet's fault, the column, the room, the line.
-- Assumes nothing.
use mathlib.Core.List.{List, ◌++◌}
use mathlib.Core.Path.{◌≡◌, ap, sym, ◌∙◌}
use Prim.Native.Nat.{ℕ, ◌*◌, ◌<◌, ◌≤◌}
use native.Mathlib.Omega.{arith}
use borrow.Author.Tests.{lt-ltb, le-ltb}
use lib.ListN.{length, drop}
use Rattle.std.proofs.Common.{Result, Ok}
use Rattle.parsimony.proofs.Order.{pick_true, pick_false}
use Rattle.answer_codes.specs.Codes.{packed, fault_code}
use Rattle.exchange.specs.Entry.{
  done,
  refused,
  faulted,
  line_given,
  column_given,
  outcome,
  outcome_code,
  leaves,
  Entered,
}
use Rattle.sheet_lines.specs.declared.Fault.{Fault}
use Rattle.report_text.specs.Puts.{Puts, text_in}
use Rattle.report_text.specs.declared.Text.{Text}
use Rattle.report_lines.proofs.LineSteps.{framed}
use Rattle.report_pages.specs.SheetLine.{on_judged, line_in, Printable, PrintedOf}
use Rattle.report_pages.proofs.PrintSteps.{printable_most}
use Rattle.report_pages.proofs.ReadLaws.{read_sound}
use Rattle.sheet.specs.Gives.{GivesSheet}
use Rattle.sheet.specs.Judge.{Contents, sound, faulty, judge}
use Rattle.sheet.specs.declared.Sheet.{Sheet}

module _ (sheet : List ℕ) (j : ℕ) (out : List ℕ) where
  -- a fault of the sheet
  pub entry_fault : (f : Fault) (code : ℕ) → judge sheet ≡ faulty f → code ≡ fault_code f → Entered sheet j out code out
  unfolding outcome on_judged outcome_code leaves
  entry_fault f code is same =
      let told : outcome sheet j (length out) ≡ faulted f =
      ap (λ p. on_judged p faulted (column_given sheet j (length out)))
      is in
      record { answer = same ∙ ap outcome_code (sym told); output = ap (λ o. leaves o out) (sym told) }

  module _ (has : Contents) (is : judge sheet ≡ sound has) where
    to_column : outcome sheet j (length out) ≡ column_given sheet j (length out) has
    unfolding outcome on_judged
    to_column = ap (λ p. on_judged p faulted (column_given sheet j (length out))) is

    -- no such column: WHICH
    pub entry_which : has.columns ≤ j → Entered sheet j out 6 out
    unfolding column_given outcome_code leaves
    entry_which over =
        let told : outcome sheet j (length out) ≡ refused 6 0 = to_column ∙ pick_false _ _ (le-ltb j has.columns
        over) in
        record { answer = ap outcome_code (sym told); output = ap (λ o. leaves o out) (sym told) }

    module _ (inside : j < has.columns) where
      to_line : outcome sheet j (length out) ≡ line_given (length out) (line_in sheet has j)
      unfolding column_given
      to_line = to_column ∙ pick_true _ _ (lt-ltb j has.columns inside)

      -- too little room: ROOM
      pub entry_room : length out < length (line_in sheet has j) → Entered sheet j out 8 out
      unfolding line_given outcome_code leaves
      entry_room short =
          let told : outcome sheet j (length out) ≡ refused 8 0 =
          to_line ∙ pick_true _ _ (lt-ltb (length out) (length (line_in sheet has j)) short) in
          record { answer = ap outcome_code (sym told); output = ap (λ o. leaves o out) (sym told) }

      -- done
      pub entry_done : (code : ℕ) (out' : List ℕ) → length (line_in sheet has j) ≤ length out
          → code ≡ packed 0 (length (line_in sheet has j))
          → out' ≡ line_in sheet has j ++ drop (length (line_in sheet has j)) out
          → Entered sheet j out code out'
      unfolding line_given outcome_code leaves
      entry_done code out' room c o =
          let told : outcome sheet j (length out) ≡ done (line_in sheet has j) =
          to_line ∙ pick_false _ _ (le-ltb (length out) (length (line_in sheet has j)) room) in
          record { answer = c ∙ ap outcome_code (sym told); output = o ∙ ap (λ r. leaves r out) (sym told) }

-- the line that is given, from the line that is printed at the start of a list
module _ (sheet : List ℕ) (s : Sheet) (costs left right : List ℕ) (j : ℕ) (ready : Printable sheet s costs left right j)
    (line line' : Text) (k : ℕ) (none : line.len ≡ 0) (printed : PrintedOf sheet j line line' k)
  where
    puts : Puts (line_in sheet ready.has j) line line'
    puts = (printed.printed ready.has ready.read.is).text

    module _ {text : List ℕ} (same : text ≡ text_in line') where
      text_is : text ≡ line_in sheet ready.has j
      text_is = same ∙ framed (line_in sheet ready.has j) line line' none puts

      -- it is at most 1,056 bytes long
      pub give_short : length text ≤ 1056
      give_short =
          let most = printable_most sheet s costs left right j ready in let long = ap length text_is in omega arith

      pub give_room : (out : List ℕ) → length out < length text → Entered sheet j out 8 out
      give_room out short =
          let long = ap length text_is in entry_room sheet j out ready.has ready.read.is ready.inside (omega arith)

      pub give_done : (out put : List ℕ) → length text ≤ length out → put ≡ text
          → Entered sheet j out (256 * length text) (put ++ drop (length text) out)
      give_done out put room is =
          let long = ap length text_is in
          entry_done sheet j out ready.has ready.read.is ready.inside (256 * length text) (put ++ drop (length text) out)
          (omega arith) (omega arith)
          (ap (λ l. l ++ drop (length text) out) is ∙ ap (λ l. l ++ drop (length l) out) text_is)

-- no such column
pub read_which : (sheet : List ℕ) (s : Sheet) (answer : Result Sheet Fault) (table' : List (List ℕ))
    (left right left' right' : List ℕ) (j : ℕ) (out : List ℕ)
    → GivesSheet (judge sheet) answer table' left right left' right'
    → answer ≡ Ok s → s.columns ≤ j → Entered sheet j out 6 out
read_which sheet s answer table' left right left' right' j out gives is over =
    let holds = read_sound sheet s answer table' left right left' right' gives is in
    let c = holds.columns in
    entry_which sheet j out holds.contents holds.is (omega arith)

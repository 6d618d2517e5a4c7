-- From what the scorer promises to the column's line: its parts, its bytes and its length.
-- Assumes nothing.
use mathlib.Core.List.{List}
use mathlib.Core.Path.{◌≡◌, ap, ap₂, ◌∙◌, subst}
use Prim.Native.Nat.{ℕ, ◌+◌, ◌≤◌, ◌<◌}
use native.Mathlib.Omega.{arith}
use lib.ListN.{length, get_or, take}
use Rattle.parsimony.specs.Allowed.{most_handed}
use Rattle.parsimony.specs.Column.{Column, column_of}
use Rattle.parsimony.specs.Label.{label}
use Rattle.parsimony.specs.Limits.{cell_bits}
use Rattle.parsimony.specs.NodeSet.{sets}
use Rattle.parsimony.specs.Row.{score}
use Rattle.parsimony.proofs.Scoring.{score_open}
use Rattle.parsimony.proofs.StateSetLaws.{states_fit}
use Rattle.promises.specs.CallRules.{Allowed, FitsWork, work_rules}
use Rattle.promises.specs.CallWrites.{WorkWritten}
use Rattle.promises.specs.Input.{Input, nodes, column}
use Rattle.promises.specs.Promises.{ColumnWorked}
use Rattle.promises.specs.Rules.{All}
use Rattle.promises.specs.declared.Refusal.{Refusal}
use Rattle.std.specs.Prelude.{None}
use Rattle.promises.specs.Answers.{Valued}
use Rattle.std.specs.Prelude.{Ok, Err}
use Rattle.promises.proofs.AnswerLaws.{all_unrefused}
use Rattle.promises.proofs.Meaning.{score_meant, label_meant, set_of_lem, set_meant}
use Rattle.promises.proofs.RuleLaws.{rules_of}
use Rattle.promises.proofs.TableLaws.{table_sound}
use Rattle.report_marks.specs.Letters.{letters}
use Rattle.report_marks.specs.OneState.{one_states}
use Rattle.report_marks.specs.Quiet.{quiet_mark}
use Rattle.report_marks.proofs.LetterLaws.{letters_length, letters_same, letters_taken}
use Rattle.report_marks.proofs.OneStateLaws.{ones_same, ones_most, ones_taken}
use Rattle.report_marks.proofs.QuietLaws.{quiet_small}
use Rattle.report_text.proofs.DecimalLaws.{decimal_length}
use Rattle.report_text.specs.Puts.{Puts}
use Rattle.report_text.specs.declared.Text.{Text}
use Rattle.report_lines.specs.Line.{line_text, column_line}
use Rattle.report_lines.specs.Reports.{Reported}
use Rattle.report_lines.proofs.LineLaws.{field_length, line_length}

module _ (I : Input) (table : Allowed I) (inside : 0 < I.c) where
  abbrev P : Column
  P = column I 0

  -- given room, the rules of the whole work hold
  pub work_rules_lem : {a b d : ℕ} → FitsWork I a b d → All (work_rules I 0 a b d)
  work_rules_lem {a} {b} {d} room =
      rules_of I (0 < I.c) (FitsWork I a b d) (record { table = table; which = inside; room = room })

  -- the line is at most 1,056 bytes long: 5 digits, 10, 1, 4, and 1,023 letters, with four spaces
  pub line_most : (number : ℕ) → number ≤ 65535 → length (column_line I number) ≤ 1056
  unfolding column_line
  line_most number few =
      let n = table.legal.size.most in
      let ones = one_states I.s (sets P) (nodes I) in
      let most = ones_most I.s (sets P) (nodes I) in
      let open_score = score_open most_handed P (table_sound I table 0 inside) in
      let parts = line_length number (score P) (quiet_mark I.cells) ones (letters (label P) (nodes I)) in
      let a = field_length number in
      let b = field_length (score P) in
      let c = field_length (quiet_mark I.cells) in
      let d = field_length ones in
      let e = letters_length (label P) (nodes I) in
      let la = decimal_length 4 number (omega arith) in
      let lb = decimal_length 9 (score P) (omega arith) in
      let lc = decimal_length 0 (quiet_mark I.cells) (let q = quiet_small I.cells in omega arith) in
      let ld = decimal_length 3 ones (omega arith) in
      omega arith

  module _ {l s r states' sets' rows' : List ℕ} {k : ℕ} (done : WorkWritten I 0 l s r k states' sets' rows') where
    -- the sets have as many of one state as the definition says
    ones_are : one_states cell_bits (λ v. get_or sets' v 0) (nodes I) ≡ one_states I.s (sets P) (nodes I)
    unfolding sets column_of
    ones_are =
        ones_same I.s cell_bits (λ v. get_or sets' v 0) (sets P) (nodes I)
        (λ v h. let narrow = (set_of_lem I table 0 inside None tt v h).within in
        let wide = states_fit I.s table.costs.most in
        (set_meant I table 0 inside None v _ tt h (done.each.right v h), narrow, omega arith))

    -- and the labels are those of the definition
    letters_are : letters (λ v. get_or states' v 0) (nodes I) ≡ letters (label P) (nodes I)
    unfolding label
    letters_are =
        letters_same (λ v. get_or states' v 0) (label P) (nodes I)
        (label_meant I table 0 inside None (λ v. get_or states' v 0) tt done.labels.right)

    -- what is put together from the scorer's work is the line
    pub text_is : (number quiet ones : ℕ) → quiet ≡ quiet_mark I.cells
        → ones ≡ one_states cell_bits (λ v. get_or sets' v 0) (nodes I)
        → line_text number k quiet ones (letters (λ v. get_or states' v 0) (nodes I)) ≡ column_line I number
    unfolding column_line
    text_is number quiet ones q o =
        let by_rows = score_meant I table 0 inside k done.score in
        ap₂ (λ x y. line_text number x y ones (letters (λ v. get_or states' v 0) (nodes I))) by_rows q
        ∙ ap₂ (line_text number (score P) (quiet_mark I.cells)) (o ∙ ones_are) letters_are

    module _ (states_room : nodes I ≤ length l) (sets_room : nodes I ≤ length s) (some_states some_sets : List ℕ)
        (el : some_states ≡ take (nodes I) states') (es : some_sets ≡ take (nodes I) sets') where
      -- and so is what is put together from the states and the sets of the nodes, as lists of their own
      pub slices_are : (number quiet ones : ℕ) → quiet ≡ quiet_mark I.cells
          → ones ≡ one_states cell_bits (λ v. get_or some_sets v 0) (length some_sets)
          → line_text number k quiet ones (letters (λ v. get_or some_states v 0) (length some_states))
          ≡ column_line I number
      slices_are number quiet ones q o =
          let states_long = done.labels.long in
          let sets_long = done.each.long in
          let count = o ∙ ap (λ l. one_states cell_bits (λ v. get_or l v 0) (length l)) es
          ∙ ones_taken cell_bits sets' (nodes I) (omega arith) in
          let labels = ap (λ l. letters (λ v. get_or l v 0) (length l)) el ∙ letters_taken states' (nodes I) (omega arith) in
          ap (line_text number k quiet ones) labels ∙ text_is number quiet ones q count

      -- and there is room for it
      pub line_fits : (number quiet ones start room : ℕ) → number ≤ 65535 → quiet ≡ quiet_mark I.cells
          → ones ≡ one_states cell_bits (λ v. get_or some_sets v 0) (length some_sets) → start + 1056 ≤ room
          → start + length (line_text number k quiet ones (letters (λ v. get_or some_states v 0) (length some_states)))
          ≤ room
      line_fits number quiet ones start room few q o fits =
          let most = line_most number few in
          let same = ap length (slices_are number quiet ones q o) in
          omega (arith, most, same, fits)

    -- and what is promised
    pub report_is : (number : ℕ) (line line' : Text) (text : List ℕ) → text ≡ column_line I number → Puts text line line'
        → Reported I number l s r line k states' sets' rows' line'
    report_is number line line' text is put =
        record {
          text = subst (λ bytes. Puts bytes line line') is put;
          score = score_meant I table 0 inside k done.score;
          worked = done;
        }

-- where all rules hold the work is done
pub worked_done : {I : Input} {states sets rows states' sets' rows' : List ℕ} {a : Valued} {k : ℕ} → a ≡ Ok k
    → ColumnWorked I 0 states sets rows a states' sets' rows' → WorkWritten I 0 states sets rows k states' sets' rows'
worked_done {I} {states} {sets} {rows} {states'} {sets'} {rows'} is promise =
    (subst (λ b. ColumnWorked I 0 states sets rows b states' sets' rows') is promise).lists

pub worked_unrefused : {I : Input} {states sets rows states' sets' rows' : List ℕ} {a : Valued} {r : Refusal}
    → a ≡ Err r
    → All (work_rules I 0 (length states) (length sets) (length rows))
    → ColumnWorked I 0 states sets rows a states' sets' rows' → ⊥
worked_unrefused {I} {states} {sets} {rows} {states'} {sets'} {rows'} {a} {r} is all promise =
    all_unrefused (work_rules I 0 (length states) (length sets) (length rows)) I r all
    (subst (λ b. ColumnWorked I 0 states sets rows b states' sets' rows') is promise).answer

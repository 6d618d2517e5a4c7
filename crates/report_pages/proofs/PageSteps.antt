-- The turns of the page's printer: a line and its line end, one after the other.
-- Assumes nothing.
use mathlib.Core.List.{List, [], ◌∷◌, ◌++◌}
use mathlib.Core.Path.{◌≡◌, refl, ap, sym, ◌∙◌, subst}
use Prim.Native.Nat.{ℕ, suc, ◌+◌, ◌*◌, ◌<◌, ◌≤◌}
use native.Mathlib.Omega.{arith}
use lib.ListN.{length}
use Rattle.parsimony.specs.Barred.{barred}
use Rattle.parsimony.proofs.Sums.{sum_zero, sum_suc}
use Rattle.report_text.specs.Puts.{Puts, InList, cleared}
use Rattle.report_text.specs.declared.Text.{Text}
use Rattle.report_text.proofs.PutLaws.{none_in_list, puts_in_list, puts_none, puts_then}
use Rattle.report_pages.specs.Page.{full_line, lines_in, scores_in, LineOf, Lines, PageOf, PrintableFrom}
use Rattle.report_pages.specs.SheetLine.{score_in, Printable, PrintedOf}
use Rattle.report_pages.proofs.PrintSteps.{printable_score, printable_most}
use Rattle.sheet.specs.Judge.{Contents, sound, judge}
use Rattle.sheet.specs.declared.Sheet.{Sheet}
use Rattle.sheet.proofs.SoundSheet.{sound_same}

-- the line and its line end
pub line_of : {sheet : List ℕ} {j k : ℕ} {page line page' : Text} → PrintedOf sheet j page line k
    → Puts (10 ∷ []) line page' → LineOf sheet j page page' k
unfolding full_line
line_of printed end =
    record {
      text = λ has is. puts_then (printed.printed has is).text end;
      score = λ has is. (printed.printed has is).score;
    }

-- for which there is room
pub line_end_room : (sheet : List ℕ) (s : Sheet) (costs left right : List ℕ) (j : ℕ)
    → Printable sheet s costs left right j → (page line : Text) (k : ℕ) → PrintedOf sheet j page line k
    → page.len + 1057 ≤ length page.list.now → line.len < length line.list.now
line_end_room sheet s costs left right j ready page line k printed fits =
    let most = printable_most sheet s costs left right j ready in
    let text = (printed.printed ready.has ready.read.is).text in
    let end = text.end in
    let size = text.size in
    omega arith

-- The page after some turns: the lines so far and their scores.
pub record Turn (sheet : List ℕ) (first total next all : ℕ) (page page' : Text) : Type 0 where
  pub lines : (has : Contents) → judge sheet ≡ sound has → Lines sheet has first total next all page page'
  pub few : all ≤ next * 4294967295
  pub from : first ≤ next
  pub none : next ≡ first → page'.len ≡ 0
  pub inside : InList page'
  pub size : length page'.list.now ≡ length page.list.now

pub turn_none : (sheet : List ℕ) (s : Sheet) (costs left right : List ℕ) (first total : ℕ) (page : Text)
    → PrintableFrom sheet s costs left right first → total ≤ first * 4294967295
    → Turn sheet first total first total page (cleared page)
unfolding lines_in scores_in
turn_none sheet s costs left right first total page ready few =
    record {
      lines = λ has is. record {
        k = 0;
        after = omega arith;
        inside = let eq : ready.has ≡ has = sound_same (sym ready.read.is ∙ is) in
            subst (λ h. first ≤ h.columns) eq ready.low;
        text = puts_none (cleared page);
        added = let z = sum_zero (λ i. score_in sheet has (first + i)) in omega arith;
      };
      few = few;
      from = omega arith;
      none = λ e. refl;
      inside = none_in_list (cleared page) refl;
      size = refl;
    }

module _ (sheet : List ℕ) (s : Sheet) (costs left right : List ℕ) (first total next all : ℕ)
    (page page' : Text) (ready : PrintableFrom sheet s costs left right first)
    (turn : Turn sheet first total next all page page') where
  -- the next column may be printed
  pub turn_printable : next < s.columns → Printable sheet s costs left right next
  turn_printable low =
      let c = ready.read.columns in
      record { has = ready.has; read = ready.read; inside = omega arith }

  -- its score is below the barred entry
  pub turn_score : next < s.columns → (page'' : Text) (k : ℕ) → LineOf sheet next page' page'' k → k < barred
  unfolding turn_printable
  turn_score low page'' k put =
      let same = put.score ready.has ready.read.is in
      let small : score_in sheet ready.has next < barred =
      printable_score sheet s costs left right next (turn_printable low) in
      omega arith

  -- and it is printed, as one more line
  pub turn_more : next < s.columns → (page'' : Text) (k : ℕ) → LineOf sheet next page' page'' k
      → Turn sheet first total (next + 1) (all + k) page page''
  unfolding lines_in scores_in
  turn_more low page'' k put =
      let few = turn.few in
      let small = turn_score low page'' k put in
      let from = turn.from in
      let puts = put.text ready.has ready.read.is in
      record {
        lines = λ has is. let before = turn.lines has is in
            let eq : ready.has ≡ has = sound_same (sym ready.read.is ∙ is) in
            let cols : s.columns ≡ has.columns = ready.read.columns ∙ ap (λ h. h.columns) eq in
            let place : first + before.k ≡ next = sym before.after in
            let score = put.score has is in
            let added = before.added in
            let step = sum_suc (λ i. score_in sheet has (first + i)) before.k in
            let here : score_in sheet has (first + before.k) ≡ score_in sheet has next =
            ap (score_in sheet has) place in
            record {
              k = suc before.k;
              after = let a = before.after in omega arith;
              inside = omega arith;
              text = subst (λ j. Puts (lines_in sheet has first before.k ++ full_line sheet has j) (cleared page) page'')
                  (sym place) (puts_then before.text (put.text has is));
              added = omega arith;
            };
        few = omega arith;
        from = omega arith;
        none = λ e. absurd (omega arith);
        inside = puts_in_list puts turn.inside;
        size = puts.size ∙ turn.size;
      }

-- a page has a column more, and none that there is not
pub page_next : (sheet : List ℕ) (s : Sheet) (costs left right : List ℕ) {first total next all : ℕ} {page page' : Text}
    → PrintableFrom sheet s costs left right first → PageOf sheet first total next all page page' → first < s.columns
    → (first < next) × (next ≤ s.columns)
page_next sheet s costs left right ready printed low =
    let c = ready.read.columns in
    let some = printed.some ready.has ready.read.is (omega arith) in
    let inside = (printed.lines ready.has ready.read.is).inside in
    (omega arith, omega arith)

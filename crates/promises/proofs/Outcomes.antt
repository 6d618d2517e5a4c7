-- No second outcome meets a promise: the answer and its number, and every entry of every list lent, are determined.
-- Assumes nothing.
use mathlib.Core.List.{List}
use mathlib.Core.Path.{◌≡◌, refl, ap, sym, ◌∙◌, subst}
use Prim.Native.Nat.{ℕ, zero, suc, ◌<◌}
use native.Mathlib.Omega.{arith}
use lib.ListN.{length}
use Rattle.parsimony.specs.Column.{column_of}
use Rattle.parsimony.specs.Written.{Written, entries, Below, Each}
use Rattle.parsimony.proofs.FilledLaws.{place_split}
use Rattle.parsimony.proofs.Scoring.{score_unique}
use Rattle.parsimony.proofs.WrittenLaws.{written_same}
use Rattle.promises.specs.Answers.{Given, LeftBy, answer_of, value_of}
use Rattle.promises.specs.CallRules.{Allowed}
use Rattle.promises.specs.CallWrites.{StatesOf, ScoresWritten, WorkWritten, IsPrelim, CountWritten}
use Rattle.promises.specs.Input.{Input, nodes, column}
use Rattle.promises.specs.Promises.{
  Scored,
  ColumnCalled,
  Labelled,
  SetsFound,
  HandedUp,
  ColumnWorked,
  CountedBySets,
}
use Rattle.promises.specs.RowRoom.{Worked}
use Rattle.promises.specs.Rules.{Rule, All}
use Rattle.promises.specs.Answers.{Answer}
use Rattle.std.specs.Prelude.{Ok, Err}
use Rattle.promises.specs.Input.{Start}
use Rattle.std.specs.Prelude.{None}
use Rattle.promises.specs.Answers.{Valued}
use Rattle.std.specs.Prelude.{Ok, Err}
use Rattle.promises.proofs.AnswerLaws.{answer_unique}
use Rattle.promises.proofs.ResultUnique.{label_unique, set_unique, entry_unique}
use Rattle.promises.proofs.RuleLaws.{label_parts, work_parts}
use Rattle.promises.proofs.TableLaws.{table_sound}

-- ---- any call

-- two outcomes under the same rules have the same answer, and leave the same if they do so refused and done
module _ {rules : List Rule} {I : Input} {Kept Kept' Same : Type 0} where
  pub answer_outcome : {a b : Answer} {Wrote Wrote' : Type 0} → Given rules I a → Given rules I b → LeftBy a Kept Wrote
      → LeftBy b Kept' Wrote' → (Kept → Kept' → Same) → (All rules → Wrote → Wrote' → Same) → (a ≡ b) × Same
  answer_outcome {a} {b} {Wrote} {Wrote'} f g l m refused done =
      let same = answer_unique rules I a b f g in
      (same, at a f l (subst (λ c. LeftBy c Kept' Wrote') (sym same) m))
    where
      at : (a : Answer) → Given rules I a → LeftBy a Kept Wrote → LeftBy a Kept' Wrote' → Same
      at (Ok u) f l m = done f.given l m
      at (Err r) f l m = refused l m

  -- the same of answers with a number, on which what is written depends
  pub valued_outcome : (a b : Valued) (Wrote Wrote' : ℕ → Type 0) → Given rules I (answer_of a)
      → Given rules I (answer_of b) → LeftBy (answer_of a) Kept (Wrote (value_of a))
      → LeftBy (answer_of b) Kept' (Wrote' (value_of b)) → (Kept → Kept' → Same)
      → ((k m : ℕ) → All rules → Wrote k → Wrote' m → (k ≡ m) × Same) → (a ≡ b) × Same
  valued_outcome (Ok k) (Ok m) W W' f g u v refused done =
      let same = done k m f.given u v in (ap Ok same.0, same.1)
  valued_outcome (Ok k) (Err q) W W' f g u v refused done =
      absurd (let e = answer_unique rules I _ _ f g in let z : ◌≡◌ {A = ℕ} 0 1 = cc in omega arith)
  valued_outcome (Err r) (Ok m) W W' f g u v refused done =
      absurd (let e = answer_unique rules I _ _ f g in let z : ◌≡◌ {A = ℕ} 0 1 = cc in omega arith)
  valued_outcome (Err r) (Err q) W W' f g u v refused done =
      let e = answer_unique rules I _ _ f g in (ap Err (cc), refused u v)

-- ---- any list

-- a list whose first n entries are right, where only one entry is right for a place
each_same : {n : ℕ} {right : ℕ → ℕ → Type 0} {before l m : List ℕ} → Written (Below n) (Each n right) before l
    → Written (Below n) (Each n right) before m → ((i x y : ℕ) → right i x → right i y → x ≡ y) → l ≡ m
each_same f g unique = written_same f g (λ i h. unique i _ _ (f.right i h) (g.right i h))

-- the row room
room_same : (I : Input) (j : ℕ) {before l m : List ℕ} → Worked I j before l → Worked I j before m → l ≡ m
room_same I j {l = l} {m = m} f g =
    written_same f g
    (λ i h. let (v, x, hv, hx, e) = place_split (nodes I) I.s i h in
    subst (λ k. entries l k ≡ entries m k) (sym e) (f.right v x hv hx ∙ sym (g.right v x hv hx)))

-- the states of a labelling
states_same : {I : Input} → Allowed I → {j : ℕ} → j < I.c → {start : Start} {before l m : List ℕ}
    → StatesOf I j start before l → StatesOf I j start before m → l ≡ m
unfolding column_of
states_same {I} table {j} inside {start} f g =
    let tree = (table_sound I table j inside).tree in
    written_same f g (λ v h. label_unique (column I j) tree start _ _ f.right g.right v (omega arith))

-- ---- each call

-- the rows that scoring leaves are those of the last column, or as they were
scores_rows : (I : Input) (c : ℕ) (scores rows s1 r1 s2 r2 : List ℕ) → I.c ≡ c → ScoresWritten I scores rows s1 r1
    → ScoresWritten I scores rows s2 r2 → r1 ≡ r2
scores_rows I zero scores rows s1 r1 s2 r2 e f g = f.none e ∙ sym (g.none e)
scores_rows I (suc j) scores rows s1 r1 s2 r2 e f g = room_same I j (f.last j (sym e)) (g.last j (sym e))

-- two lists left as they were are the same
kept_two : {x y l m n o : List ℕ} → (l ≡ x) × (m ≡ y) → (n ≡ x) × (o ≡ y) → (l ≡ n) × (m ≡ o)
kept_two f g = (f.0 ∙ sym g.0, f.1 ∙ sym g.1)

-- no second outcome of scoring
pub score_outcome : (I : Input) (scores rows : List ℕ) (a b : Answer) (s1 r1 s2 r2 : List ℕ)
    → Scored I scores rows a s1 r1 → Scored I scores rows b s2 r2 → (a ≡ b) × ((s1 ≡ s2) × (r1 ≡ r2))
score_outcome I scores rows a b s1 r1 s2 r2 f g =
    answer_outcome f.answer g.answer f.lists g.lists kept_two
    (λ rules u v. (
      each_same u.each v.each (λ j k m. score_unique (column I j) k m),
      scores_rows I I.c scores rows s1 r1 s2 r2 refl u v,
    ))

-- no second outcome of a call on a column whose output can be written in one way only
column_outcome : {rules : ℕ → ℕ → List Rule} {I : Input} {j : ℕ} {Output : List ℕ → List ℕ → Type 0}
    {out rows : List ℕ} {a b : Answer} {o1 r1 o2 r2 : List ℕ} → ColumnCalled rules I j Output out rows a o1 r1
    → ColumnCalled rules I j Output out rows b o2 r2
    → (All (rules (length out) (length rows)) → Output out o1 → Output out o2 → o1 ≡ o2)
    → (a ≡ b) × ((o1 ≡ o2) × (r1 ≡ r2))
column_outcome {I = I} {j = j} f g same =
    answer_outcome f.answer g.answer f.lists g.lists kept_two
    (λ all u v. (same all u.output v.output, room_same I j u.worked v.worked))

-- no second outcome of labelling
pub label_outcome : (I : Input) (j : ℕ) (start : Start) (states rows : List ℕ) (a b : Answer) (s1 r1 s2 r2 : List ℕ)
    → Labelled I j start states rows a s1 r1 → Labelled I j start states rows b s2 r2
    → (a ≡ b) × ((s1 ≡ s2) × (r1 ≡ r2))
label_outcome I j start states rows a b s1 r1 s2 r2 f g =
    column_outcome f g
    (λ all. let parts = label_parts I j start (length states) (length rows) all in
    states_same parts.table parts.which.inside)

-- no second outcome of the set call
pub sets_outcome : (I : Input) (j : ℕ) (start : Start) (sets rows : List ℕ) (a b : Answer) (s1 r1 s2 r2 : List ℕ)
    → SetsFound I j start sets rows a s1 r1 → SetsFound I j start sets rows b s2 r2
    → (a ≡ b) × ((s1 ≡ s2) × (r1 ≡ r2))
sets_outcome I j start sets rows a b s1 r1 s2 r2 f g =
    column_outcome f g (λ all u v. each_same u v (set_unique (column I j) start))

-- no second outcome of handing up
pub hand_up_outcome : (I : Input) (j : ℕ) (row rows : List ℕ) (a b : Answer) (s1 r1 s2 r2 : List ℕ)
    → HandedUp I j row rows a s1 r1 → HandedUp I j row rows b s2 r2 → (a ≡ b) × ((s1 ≡ s2) × (r1 ≡ r2))
hand_up_outcome I j row rows a b s1 r1 s2 r2 f g =
    column_outcome f g (λ all u v. each_same u v (entry_unique (column I j)))

-- the whole work on a column can be written in one way only
pub work_unique : (I : Input) → Allowed I → (j : ℕ) → j < I.c → (states sets rows : List ℕ) (k m : ℕ)
    (l1 s1 r1 l2 s2 r2 : List ℕ) → WorkWritten I j states sets rows k l1 s1 r1
    → WorkWritten I j states sets rows m l2 s2 r2 → (k ≡ m) × ((l1 ≡ l2) × (s1 ≡ s2) × (r1 ≡ r2))
work_unique I table j inside states sets rows k m l1 s1 r1 l2 s2 r2 u v = (
  score_unique (column I j) k m u.score v.score,
  (
    states_same table inside u.labels v.labels,
    each_same u.each v.each (set_unique (column I j) None),
    room_same I j u.worked v.worked,
  ),
)

-- no second outcome of the whole work on a column
pub work_outcome : (I : Input) (j : ℕ) (states sets rows : List ℕ) (a b : Valued) (l1 s1 r1 l2 s2 r2 : List ℕ)
    → ColumnWorked I j states sets rows a l1 s1 r1 → ColumnWorked I j states sets rows b l2 s2 r2
    → (a ≡ b) × ((l1 ≡ l2) × (s1 ≡ s2) × (r1 ≡ r2))
work_outcome I j states sets rows a b l1 s1 r1 l2 s2 r2 f g =
    valued_outcome a b (λ k. WorkWritten I j states sets rows k l1 s1 r1)
    (λ k. WorkWritten I j states sets rows k l2 s2 r2) f.answer g.answer f.lists g.lists
    (λ l m. (l.0 ∙ sym m.0, l.1 ∙ sym m.1, l.2 ∙ sym m.2))
    (λ k m rules u v. let parts = work_parts I j (length states) (length sets) (length rows) rules in
    work_unique I parts.table j parts.which states sets rows k m l1 s1 r1 l2 s2 r2 u v)

-- no second outcome of counting by sets
pub count_outcome : (I : Input) (j : ℕ) (sets : List ℕ) (a b : Valued) (s1 s2 : List ℕ) → CountedBySets I j sets a s1
    → CountedBySets I j sets b s2 → (a ≡ b) × (s1 ≡ s2)
count_outcome I j sets a b s1 s2 f g =
    valued_outcome a b (λ k. CountWritten I j sets k s1) (λ k. CountWritten I j sets k s2) f.answer g.answer
    f.lists g.lists (λ l m. l ∙ sym m)
    (λ k m rules u v.
    (u.count ∙ sym v.count, each_same {right = IsPrelim I j} u.each v.each (λ i x y p q. p ∙ sym q)))

-- By induction over plans: what is put together is what the definitions by rows give on the whole table.
-- Assumes nothing.
use mathlib.Core.Logic.{⊎_elim}
use mathlib.Core.Path.{◌≡◌, refl, ap, sym, ◌∙◌, subst}
use Prim.Native.Nat.{ℕ, ◌+◌, ◌-◌, ◌≤◌, ◌<◌}
use native.Mathlib.Nat.{zero-add}
use native.Mathlib.Omega.{arith}
use Rattle.parsimony.specs.Column.{Column, column_of}
use Rattle.parsimony.specs.Label.{label_from, free_start}
use Rattle.parsimony.specs.NodeSet.{sets_from, free_set}
use Rattle.parsimony.specs.Row.{row, score}
use Rattle.parsimony.specs.Tie.{rule_in_use}
use Rattle.parsimony.proofs.Order.{by_lt}
use Rattle.promises.specs.Input.{Input, nodes, column}
use Rattle.promises.specs.Starts.{StateStart, SetStart, start_or, labels_for, sets_for}
use Rattle.promises.specs.Input.{Start}
use Rattle.std.specs.Prelude.{Some}
use Rattle.promises.proofs.Meaning.{set_of_lem}
use Rattle.promises.proofs.TableLaws.{table_sound, table_node}
use Rattle.cuts.specs.Call.{LabelCall, SetsCall, Answers}
use Rattle.cuts.specs.Cut.{CutAt, part, rest, part_node, rest_node, in_part, in_rest, span}
use Rattle.cuts.specs.Cuttable.{Cuttable}
use Rattle.cuts.specs.Piece.{Choice, piece_node}
use Rattle.cuts.specs.Plan.{Plan, whole, cut_at, columns_at, SendsUp, ScoresBy, Comes, LabelsBy, SetsBy, Everywhere}
use Rattle.cuts.proofs.CallLaws.{rules_answer, hand_up_row, score_of, labels_of, sets_of}
use Rattle.cuts.proofs.CallsMade.{label_call_made, sets_call_made}
use Rattle.cuts.proofs.CutLaws.{part_stands, rest_stands, rest_own}
use Rattle.cuts.proofs.KeptLaws.{Stands, piece_top}
use Rattle.cuts.proofs.PieceNodes.{piece_nodes}
use Rattle.cuts.proofs.PieceRules.{piece_sits}
use Rattle.cuts.proofs.PlanLaws.{top_row, again, Downward, label_down, sets_down, cut_above, cut_down}
use Rattle.cuts.proofs.SitsLaws.{SameTop, sits_top}
use Rattle.cuts.proofs.SpanLaws.{span_sits, span_rules, span_row, span_cuttable}
use Rattle.cuts.proofs.StartLaws.{state_start, set_start, label_state, set_some, part_state, part_set}

-- the number of a column in the second range, and back
pub later : (m j : ℕ) → m ≤ j → m + (j - m) ≡ j
later m j h = omega arith

-- The rows sent up are the table's rows at its root.
pub sends_right : (plan : Plan) (I : Input) (up : ℕ → ℕ → ℕ) → Cuttable I → SendsUp plan I up
    → (j x : ℕ) → j < I.c → x < I.s → up j x ≡ row (column I j) (nodes I - 1) x
sends_right whole I up ok s j x hj hx = hand_up_row I ok.table j hj (up j) (s j hj) x hx
sends_right (cut_at v below above) I up ok (cut, (sent, (low, high))) j x hj hx =
    let in_part_lem = part_stands I ok.table v cut in
    let right : (j x : ℕ) → j < I.c → x < I.s → sent j x ≡ row (column I j) v x =
    λ j x hj hx. sends_right below (part I v) sent (again I ok (in_part I v) v in_part_lem) low j x hj hx
    ∙ top_row I ok (in_part I v) v in_part_lem j x hj hx in
    let in_rest_lem = rest_stands I ok.table v cut sent right in
    sends_right above (rest I v sent) up (again I ok (in_rest I v sent) (nodes I - 1) in_rest_lem) high j x hj hx
    ∙ top_row I ok (in_rest I v sent) (nodes I - 1) in_rest_lem j x hj hx
sends_right (columns_at m first second) I up ok (within, (one, two)) j x hj hx =
    let top : nodes I - 1 < nodes I = let some = table_node I ok.table in omega arith in
    by_lt j m
    (λ low. sends_right first (span I 0 m) up (span_cuttable I ok 0 m (omega arith)) one j x low hx
    ∙ span_row I ok 0 m (omega arith) j (nodes I - 1) x low top hx
    ∙ ap (λ k. row (column I k) (nodes I - 1) x) (zero-add j))
    (λ high. ap (λ k. up k x) (sym (later m j high))
    ∙ sends_right second (span I m (I.c - m)) (λ j. up (m + j)) (span_cuttable I ok m (I.c - m) (omega arith)) two
    (j - m) x (omega arith) hx
    ∙ span_row I ok m (I.c - m) (omega arith) (j - m) (nodes I - 1) x (omega arith) top hx
    ∙ ap (λ k. row (column I k) (nodes I - 1) x) (later m j high))

-- What a part sends up is the table's row at the node that was cut.
pub sent_right : (below : Plan) (I : Input) (v : ℕ) (sent : ℕ → ℕ → ℕ) → Cuttable I → CutAt I v
    → SendsUp below (part I v) sent → (j x : ℕ) → j < I.c → x < I.s → sent j x ≡ row (column I j) v x
sent_right below I v sent ok cut low j x hj hx =
    let in_part_lem = part_stands I ok.table v cut in
    sends_right below (part I v) sent (again I ok (in_part I v) v in_part_lem) low j x hj hx
    ∙ top_row I ok (in_part I v) v in_part_lem j x hj hx

module _ (I : Input) (ok : Cuttable I) (v : ℕ) (cut : CutAt I v) (sent : ℕ → ℕ → ℕ)
    (right : (j x : ℕ) → j < I.c → x < I.s → sent j x ≡ row (column I j) v x) (j : ℕ) (hj : j < I.c) where
  abbrev K : Choice
  K = in_rest I v sent

  in_rest_lem : Stands I K (nodes I - 1)
  in_rest_lem = rest_stands I ok.table v cut sent right

  peak : piece_node I K (nodes (rest I v sent) - 1) ≡ nodes I - 1
  peak =
      ap (λ k. piece_node I K (k - 1)) (piece_nodes I ok.table K (nodes I - 1) in_rest_lem)
      ∙ piece_top I ok.table K (nodes I - 1) in_rest_lem

  -- the rest's score, free starts and root's row are the table's
  pub rest_top : SameTop (column (rest I v sent) j) (column I j)
  unfolding column_of
  rest_top =
      let sound = table_sound I ok.table j hj in
      sits_top (column (rest I v sent) j) (column I j) (piece_node I K)
      (piece_sits I ok.table K (nodes I - 1) in_rest_lem j hj)
      (table_sound (rest I v sent) (again I ok K (nodes I - 1) in_rest_lem).table j hj).tree
      sound.tree sound.states peak

-- column i of a range that starts at first is column j of the table
module _ (I : Input) (ok : Cuttable I) (first count : ℕ) (within : first + count ≤ I.c) (i j : ℕ) (low : i < count)
    (same : first + i ≡ j) where
  -- its score, free starts and root's row are the table's
  pub span_top : SameTop (column (span I first count) i) (column I j)
  unfolding column_of
  span_top =
      let sound = table_sound I ok.table (first + i) (omega arith) in
      subst (λ k. SameTop (column (span I first count) i) (column I k)) same
      (sits_top (column (span I first count) i) (column I (first + i)) (λ v. v)
      (span_sits I ok first count within i low)
      (table_sound (span I first count) (span_rules I ok first count within) i low).tree
      sound.tree sound.states refl)

  -- and so is the work from the root down
  span_down : (F : Column → ℕ → ℕ → ℕ) → Downward F → (x v : ℕ) → v < nodes I
      → F (column (span I first count) i) x v ≡ F (column I j) x v
  unfolding column_of
  span_down F down x v h =
      let sound = table_sound I ok.table (first + i) (omega arith) in
      let A = column (span I first count) i in
      let B = column I (first + i) in
      ap (λ z. F A z v) (sym (down.root B sound.tree x))
      ∙ sym (down.along A B (λ v. v) (span_sits I ok first count within i low)
      (table_sound (span I first count) (span_rules I ok first count within) i low).tree
      sound.tree sound.states x v (omega arith))
      ∙ ap (λ k. F (column I k) x v) same

-- The scores put together are the table's.
pub scores_right : (plan : Plan) (I : Input) (S : ℕ → ℕ) → Cuttable I → ScoresBy plan I S
    → (j : ℕ) → j < I.c → S j ≡ score (column I j)
scores_right whole I S ok call j hj = score_of I ok.table j hj S call
scores_right (cut_at v below above) I S ok (cut, (sent, (low, high))) j hj =
    let right = sent_right below I v sent ok cut low in
    let in_rest_lem = rest_stands I ok.table v cut sent right in
    scores_right above (rest I v sent) S (again I ok (in_rest I v sent) (nodes I - 1) in_rest_lem) high j hj
    ∙ (rest_top I ok v cut sent right j hj).score
scores_right (columns_at m first second) I S ok (within, (one, two)) j hj =
    by_lt j m
    (λ low. scores_right first (span I 0 m) S (span_cuttable I ok 0 m (omega arith)) one j low
    ∙ (span_top I ok 0 m (omega arith) j j low (zero-add j)).score)
    (λ high. ap S (sym (later m j high))
    ∙ scores_right second (span I m (I.c - m)) (λ j. S (m + j)) (span_cuttable I ok m (I.c - m) (omega arith)) two
    (j - m) (omega arith)
    ∙ (span_top I ok m (I.c - m) (omega arith) (j - m) j (omega arith) (later m j high)).score)

-- Work from the root down by calls: labelling or the sets, with the starts that its calls take.
pub record Work (F : Column → ℕ → ℕ → ℕ) (free : Column → ℕ) (Call : Input → ℕ → Start → (ℕ → ℕ) → Type 0)
    (May : Input → ℕ → Start → Type 0) : Type 1 where
  pub down : Downward F
  pub call : (I : Input) → Cuttable I → (j : ℕ) → j < I.c → (start : Start) (f : ℕ → ℕ) → May I j start
      → Call I j start f → (v : ℕ) → v < nodes I → f v ≡ F (column I j) (start_or start (free (column I j))) v
  pub made : (I : Input) → Cuttable I → (j : ℕ) → j < I.c → (start : Start) (f : ℕ → ℕ) → May I j start
      → ((v : ℕ) → v < nodes I → f v ≡ F (column I j) (start_or start (free (column I j))) v) → Call I j start f
  pub same : (A B : Column) → SameTop A B → free A ≡ free B
  pub moves : (A B : Input) (j k : ℕ) → A.s ≡ B.s → SameTop (column A j) (column B k) → (start : Start)
      → May B k start → May A j start
  pub lowers : (I : Input) → Cuttable I → (j : ℕ) → j < I.c → (start : Start) → May I j start → (v : ℕ) → CutAt I v
      → May (part I v) j (Some (F (column I j) (start_or start (free (column I j))) v))

pub label_work : Work (label_from rule_in_use) free_start LabelCall StateStart
unfolding column_of
label_work =
    record {
      down = label_down;
      call = λ I ok j hj start f fit call v h. labels_of I ok.table j hj start f fit call v h;
      made = λ I ok j hj start f fit right. label_call_made I ok.table j hj start fit f right;
      same = λ A B top. top.start;
      moves = λ A B j k e top. state_start A B j k e (λ x h. top.root x (subst (λ s. x < s) (sym e) h));
      lowers = λ I ok j hj start fit v cut. part_state I ok j hj v cut _
          (label_state I ok j hj start fit v (let inside = cut.inside in omega arith));
    }

pub sets_work : Work sets_from free_set SetsCall SetStart
unfolding column_of
sets_work =
    record {
      down = sets_down;
      call = λ I ok j hj start f fit call v h. sets_of I ok.table j hj start f fit call v h;
      made = λ I ok j hj start f fit right. sets_call_made I ok.table j hj start fit f right;
      same = λ A B top. top.free;
      moves = λ A B j k e top. set_start A B j k e (λ x h. top.root x (subst (λ s. x < s) (sym e) h));
      lowers = λ I ok j hj start fit v cut. let inside = cut.inside in
          part_set I ok j hj v cut _ (set_some I ok j hj start fit v (omega arith))
          (set_of_lem I ok.table j hj start fit v (omega arith)).within;
    }

module _ {F : Column → ℕ → ℕ → ℕ} {free : Column → ℕ} {Call : Input → ℕ → Start → (ℕ → ℕ) → Type 0}
    {May : Input → ℕ → Start → Type 0} (work : Work F free Call May) where
  -- what is worked on a range is what is worked on the table
  pub range_right : (I : Input) (ok : Cuttable I) (first count : ℕ) (within : first + count ≤ I.c) (i j : ℕ)
      → i < count → first + i ≡ j → (start : Start) (v : ℕ) → v < nodes I
      → F (column (span I first count) i) (start_or start (free (column (span I first count) i))) v
      ≡ F (column I j) (start_or start (free (column I j))) v
  range_right I ok first count within i j low same start v h =
      ap (λ z. F (column (span I first count) i) (start_or start z) v)
      (work.same _ _ (span_top I ok first count within i j low same))
      ∙ span_down I ok first count within i j low same F work.down (start_or start (free (column I j))) v h

  -- What comes down by a plan is what the definitions by rows give on the whole table.
  comes_right : (plan : Plan) (I : Input) (j : ℕ) (start : Start) (f : ℕ → ℕ) → Cuttable I → j < I.c
      → May I j start → Comes Call plan I j start f
      → (v : ℕ) → v < nodes I → f v ≡ F (column I j) (start_or start (free (column I j))) v
  comes_right whole I j start f ok hj fit call v h = work.call I ok j hj start f fit call v h
  comes_right (cut_at v below above) I j start f ok hj fit (cut, (sent, (low, (high, lower)))) u h =
      let inside = cut.inside in
      let right = sent_right below I v sent ok cut low in
      let in_part_lem = part_stands I ok.table v cut in
      let in_rest_lem = rest_stands I ok.table v cut sent right in
      let J = rest I v sent in
      let top = rest_top I ok v cut sent right j hj in
      let x = start_or start (free (column I j)) in
      let upper : (i : ℕ) → i < nodes J → f (rest_node I v sent i) ≡ F (column J j) x i =
      λ i hi. comes_right above J j start (λ i. f (rest_node I v sent i))
      (again I ok (in_rest I v sent) (nodes I - 1) in_rest_lem) hj (work.moves J I j j refl top start fit) high i hi
      ∙ ap (λ z. F (column J j) (start_or start z) i) (work.same _ _ top) in
      let own = cut_above F work.down I ok v cut sent right j hj x f upper v (omega arith)
      (rest_own I ok.table v cut sent right) in
      let start_below : May (part I v) j (Some (f v)) =
      subst (λ z. May (part I v) j (Some z)) (sym own) (work.lowers I ok j hj start fit v cut) in
      cut_down F work.down I ok v cut sent right j hj x f upper own
      (λ i hi. comes_right below (part I v) j (Some (f v)) (λ i. f (part_node I v i))
      (again I ok (in_part I v) v in_part_lem) hj start_below lower i hi) u h
  comes_right (columns_at m first second) I j start f ok hj fit (within, side) v h =
      ⊎_elim
      (λ p. let low = p.0 in
      let at_top = span_top I ok 0 m (omega arith) j j low (zero-add j) in
      comes_right first (span I 0 m) j start f (span_cuttable I ok 0 m (omega arith)) low
      (work.moves (span I 0 m) I j j refl at_top start fit) p.1 v h
      ∙ range_right I ok 0 m (omega arith) j j low (zero-add j) start v h)
      (λ p. let high = p.0 in
      let count = I.c - m in
      let at_top = span_top I ok m count (omega arith) (j - m) j (omega arith) (later m j high) in
      comes_right second (span I m count) (j - m) start f (span_cuttable I ok m count (omega arith)) (omega arith)
      (work.moves (span I m count) I (j - m) j refl at_top start fit) p.1 v h
      ∙ range_right I ok m count (omega arith) (j - m) j (omega arith) (later m j high) start v h)
      side

-- The labels put together are the table's.
pub labels_right : (plan : Plan) (I : Input) (j : ℕ) (start : Start) (l : ℕ → ℕ) → Cuttable I → j < I.c
    → StateStart I j start → LabelsBy plan I j start l
    → (v : ℕ) → v < nodes I → l v ≡ labels_for (column I j) start v
labels_right = comes_right label_work

-- The sets put together are the table's.
pub sets_right : (plan : Plan) (I : Input) (j : ℕ) (start : Start) (S : ℕ → ℕ) → Cuttable I → j < I.c
    → SetStart I j start → SetsBy plan I j start S
    → (v : ℕ) → v < nodes I → S v ≡ sets_for (column I j) start v
sets_right = comes_right sets_work

-- No table on which a plan makes calls refuses one.
pub plan_answers : (plan : Plan) (I : Input) → Cuttable I → Everywhere Answers plan I
plan_answers whole I ok = rules_answer I ok.table
plan_answers (cut_at v below above) I ok = λ cut. (
  plan_answers below (part I v) (again I ok (in_part I v) v (part_stands I ok.table v cut)),
  λ sent low. let right = sent_right below I v sent ok cut low in
      plan_answers above (rest I v sent)
      (again I ok (in_rest I v sent) (nodes I - 1) (rest_stands I ok.table v cut sent right)),
)
plan_answers (columns_at m first second) I ok = λ within. (
  plan_answers first (span I 0 m) (span_cuttable I ok 0 m (omega arith)),
  plan_answers second (span I m (I.c - m)) (span_cuttable I ok m (I.c - m) (omega arith)),
)

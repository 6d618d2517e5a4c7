-- By induction over plans: on a table that may be cut, what the definitions by rows give is put together by every plan
-- whose cuts are allowed.
-- Assumes nothing.
use mathlib.Core.Logic.{inl, inr}
use mathlib.Core.Path.{◌≡◌, refl, ap, sym, ◌∙◌, subst}
use Prim.Native.Nat.{ℕ, ◌+◌, ◌-◌, ◌<◌}
use native.Mathlib.Nat.{zero-add}
use native.Mathlib.Omega.{arith}
use Rattle.parsimony.specs.Column.{Column, column_of}
use Rattle.parsimony.specs.Row.{row, score}
use Rattle.parsimony.proofs.Order.{by_lt}
use Rattle.promises.specs.Input.{Input, nodes, column}
use Rattle.promises.specs.Starts.{StateStart, SetStart, start_or, labels_for, sets_for}
use Rattle.promises.specs.Input.{Start}
use Rattle.std.specs.Prelude.{Some}
use Rattle.promises.proofs.TableLaws.{table_sound, table_node}
use Rattle.cuts.specs.Cut.{CutAt, part, rest, part_node, rest_node, in_part, in_rest, span}
use Rattle.cuts.specs.Cuttable.{Cuttable}
use Rattle.cuts.specs.Piece.{Choice, piece_node, piece}
use Rattle.cuts.specs.Plan.{Plan, whole, cut_at, columns_at, SendsUp, ScoresBy, Comes, LabelsBy, SetsBy, Suits}
use Rattle.cuts.proofs.CallsMade.{score_call_made, hand_up_call_made}
use Rattle.cuts.proofs.CutLaws.{part_stands, rest_stands}
use Rattle.cuts.proofs.KeptLaws.{Stands, from}
use Rattle.cuts.proofs.PieceNodes.{piece_nodes}
use Rattle.cuts.proofs.PlanLaws.{top_row, again, piece_down}
use Rattle.cuts.proofs.PlanResults.{later, rest_top, span_top, Work, label_work, sets_work, range_right}
use Rattle.cuts.proofs.SpanLaws.{span_row, span_cuttable}

-- the table's rows at node v, the column first and then the state
abbrev rows_at : Input → ℕ → ℕ → ℕ → ℕ
rows_at I v j x = row (column I j) v x

-- a table cut at v, with its own rows at v sent up
module _ (I : Input) (ok : Cuttable I) (v : ℕ) (cut : CutAt I v) where
  in_part_lem : Stands I (in_part I v) v
  in_part_lem = part_stands I ok.table v cut

  part_ok : Cuttable (part I v)
  part_ok = again I ok (in_part I v) v in_part_lem

  in_rest_lem : Stands I (in_rest I v (rows_at I v)) (nodes I - 1)
  in_rest_lem = rest_stands I ok.table v cut (rows_at I v) (λ j x hj hx. refl)

  rest_ok : Cuttable (rest I v (rows_at I v))
  rest_ok = again I ok (in_rest I v (rows_at I v)) (nodes I - 1) in_rest_lem

-- The table's rows at its root are sent up by every plan that suits it.
pub plan_sends : (plan : Plan) (I : Input) (up : ℕ → ℕ → ℕ) → Cuttable I → Suits plan I
    → ((j x : ℕ) → j < I.c → x < I.s → up j x ≡ row (column I j) (nodes I - 1) x) → SendsUp plan I up
plan_sends whole I up ok suits right = λ j hj. hand_up_call_made I ok.table j hj (up j) (λ x hx. right j x hj hx)
plan_sends (cut_at v below above) I up ok (cut, (low, high)) right =
    let sends : SendsUp below (part I v) (rows_at I v) =
    plan_sends below (part I v) (rows_at I v) (part_ok I ok v cut) low
    (λ j x hj hx. sym (top_row I ok (in_part I v) v (in_part_lem I ok v cut) j x hj hx)) in
    let upper : SendsUp above (rest I v (rows_at I v)) up =
    plan_sends above (rest I v (rows_at I v)) up (rest_ok I ok v cut) (high (rows_at I v) sends)
    (λ j x hj hx. right j x hj hx
    ∙ sym (top_row I ok (in_rest I v (rows_at I v)) (nodes I - 1) (in_rest_lem I ok v cut) j x hj hx)) in
    (cut, (rows_at I v, (sends, upper)))
plan_sends (columns_at m first second) I up ok (within, (one, two)) right =
    let top : nodes I - 1 < nodes I = let some = table_node I ok.table in omega arith in
    let left : SendsUp first (span I 0 m) up =
    plan_sends first (span I 0 m) up (span_cuttable I ok 0 m (omega arith)) one
    (λ j x hj hx. right j x (omega arith) hx
    ∙ ap (λ k. row (column I k) (nodes I - 1) x) (sym (zero-add j))
    ∙ sym (span_row I ok 0 m (omega arith) j (nodes I - 1) x hj top hx)) in
    let others : SendsUp second (span I m (I.c - m)) (λ j. up (m + j)) =
    plan_sends second (span I m (I.c - m)) (λ j. up (m + j)) (span_cuttable I ok m (I.c - m) (omega arith)) two
    (λ j x hj hx. right (m + j) x (omega arith) hx
    ∙ sym (span_row I ok m (I.c - m) (omega arith) j (nodes I - 1) x hj top hx)) in
    (within, (left, others))

-- A part sends up the table's rows at the node that is cut, by every plan that suits the part.
part_sends : (I : Input) → Cuttable I → (v : ℕ) → CutAt I v → (below : Plan) → Suits below (part I v)
    → SendsUp below (part I v) (rows_at I v)
part_sends I ok v cut below low =
    plan_sends below (part I v) (rows_at I v) (part_ok I ok v cut) low
    (λ j x hj hx. sym (top_row I ok (in_part I v) v (in_part_lem I ok v cut) j x hj hx))

-- The table's scores are put together by every plan that suits it.
pub plan_scores : (plan : Plan) (I : Input) (S : ℕ → ℕ) → Cuttable I → Suits plan I
    → ((j : ℕ) → j < I.c → S j ≡ score (column I j)) → ScoresBy plan I S
plan_scores whole I S ok suits right = score_call_made I ok.table S right
plan_scores (cut_at v below above) I S ok (cut, (low, high)) right =
    let sends = part_sends I ok v cut below low in
    let upper : ScoresBy above (rest I v (rows_at I v)) S =
    plan_scores above (rest I v (rows_at I v)) S (rest_ok I ok v cut) (high (rows_at I v) sends)
    (λ j hj. right j hj ∙ sym (rest_top I ok v cut (rows_at I v) (λ j x hj hx. refl) j hj).score) in
    (cut, (rows_at I v, (sends, upper)))
plan_scores (columns_at m first second) I S ok (within, (one, two)) right =
    let left : ScoresBy first (span I 0 m) S =
    plan_scores first (span I 0 m) S (span_cuttable I ok 0 m (omega arith)) one
    (λ j hj. right j (omega arith) ∙ sym (span_top I ok 0 m (omega arith) j j hj (zero-add j)).score) in
    let others : ScoresBy second (span I m (I.c - m)) (λ j. S (m + j)) =
    plan_scores second (span I m (I.c - m)) (λ j. S (m + j)) (span_cuttable I ok m (I.c - m) (omega arith)) two
    (λ j hj. right (m + j) (omega arith) ∙ sym (span_top I ok m (I.c - m) (omega arith) j (m + j) hj refl).score) in
    (within, (left, others))

module _ {F : Column → ℕ → ℕ → ℕ} {free : Column → ℕ} {Call : Input → ℕ → Start → (ℕ → ℕ) → Type 0}
    {May : Input → ℕ → Start → Type 0} (work : Work F free Call May) where
  -- the values f of the table's nodes are, on a piece's nodes, the piece's from the value at the node on top
  piece_values : (I : Input) (ok : Cuttable I) (K : Choice) (top : ℕ) → Stands I K top → (j : ℕ) → j < I.c → (x : ℕ)
      (f : ℕ → ℕ) → ((u : ℕ) → u < nodes I → f u ≡ F (column I j) x u)
      → (i : ℕ) → i < nodes (piece I K) → f (piece_node I K i) ≡ F (column (piece I K) j) (f top) i
  piece_values I ok K top stands j hj x f right i hi =
      let long = piece_nodes I ok.table K top stands in
      right (piece_node I K i) (from I ok.table K top stands i (omega arith)).0
      ∙ piece_down F work.down I ok K top stands j hj x i hi
      ∙ ap (λ z. F (column (piece I K) j) z i) (sym (right top stands.inside))

  -- What the definitions by rows give comes down by every plan that suits the table.
  comes_made : (plan : Plan) (I : Input) (j : ℕ) (start : Start) (f : ℕ → ℕ) → Cuttable I → Suits plan I → j < I.c
      → May I j start → ((u : ℕ) → u < nodes I → f u ≡ F (column I j) (start_or start (free (column I j))) u)
      → Comes Call plan I j start f
  unfolding column_of
  comes_made whole I j start f ok suits hj may right = work.made I ok j hj start f may right
  comes_made (cut_at v below above) I j start f ok (cut, (low, high)) hj may right =
      let inside = cut.inside in
      let sent = rows_at I v in
      let sends = part_sends I ok v cut below low in
      let J = rest I v sent in
      let top = rest_top I ok v cut sent (λ j x hj hx. refl) j hj in
      let x = start_or start (free (column I j)) in
      let root : f (nodes I - 1) ≡ start_or start (free (column J j)) =
      right (nodes I - 1) (omega arith)
      ∙ work.down.root (column I j) (table_sound I ok.table j hj).tree x
      ∙ ap (start_or start) (sym (work.same _ _ top)) in
      let upper : Comes Call above J j start (λ i. f (rest_node I v sent i)) =
      comes_made above J j start (λ i. f (rest_node I v sent i)) (rest_ok I ok v cut) (high sent sends) hj
      (work.moves J I j j refl top start may)
      (λ i hi. piece_values I ok (in_rest I v sent) (nodes I - 1) (in_rest_lem I ok v cut) j hj x f right i hi
      ∙ ap (λ z. F (column J j) z i) root) in
      let own : f v ≡ F (column I j) x v = right v (omega arith) in
      let start_below : May (part I v) j (Some (f v)) =
      subst (λ z. May (part I v) j (Some z)) (sym own) (work.lowers I ok j hj start may v cut) in
      let lower : Comes Call below (part I v) j (Some (f v)) (λ i. f (part_node I v i)) =
      comes_made below (part I v) j (Some (f v)) (λ i. f (part_node I v i)) (part_ok I ok v cut) low hj start_below
      (λ i hi. piece_values I ok (in_part I v) v (in_part_lem I ok v cut) j hj x f right i hi) in
      (cut, (sent, (sends, (upper, lower))))
  comes_made (columns_at m first second) I j start f ok (within, (one, two)) hj may right = (
    within,
    by_lt j m
        (λ low. let top = span_top I ok 0 m (omega arith) j j low (zero-add j) in
        let left : Comes Call first (span I 0 m) j start f =
        comes_made first (span I 0 m) j start f (span_cuttable I ok 0 m (omega arith)) one low
        (work.moves (span I 0 m) I j j refl top start may)
        (λ u hu. right u hu ∙ sym (range_right work I ok 0 m (omega arith) j j low (zero-add j) start u hu)) in
        inl (low, left))
        (λ high. let count = I.c - m in
        let there : j - m < count = omega arith in
        let top = span_top I ok m count (omega arith) (j - m) j there (later m j high) in
        let others : Comes Call second (span I m count) (j - m) start f =
        comes_made second (span I m count) (j - m) start f (span_cuttable I ok m count (omega arith)) two there
        (work.moves (span I m count) I (j - m) j refl top start may)
        (λ u hu. right u hu
        ∙ sym (range_right work I ok m count (omega arith) (j - m) j there (later m j high) start u hu)) in
        inr (high, others)),
  )

-- The table's labels are put together by every plan that suits it, from any start.
pub plan_labels : (plan : Plan) (I : Input) (j : ℕ) (start : Start) (l : ℕ → ℕ) → Cuttable I → Suits plan I → j < I.c
    → StateStart I j start → ((v : ℕ) → v < nodes I → l v ≡ labels_for (column I j) start v)
    → LabelsBy plan I j start l
plan_labels = comes_made label_work

-- The table's sets are put together by every plan that suits it, from any start.
pub plan_sets : (plan : Plan) (I : Input) (j : ℕ) (start : Start) (S : ℕ → ℕ) → Cuttable I → Suits plan I → j < I.c
    → SetStart I j start → ((v : ℕ) → v < nodes I → S v ≡ sets_for (column I j) start v)
    → SetsBy plan I j start S
plan_sets = comes_made sets_work

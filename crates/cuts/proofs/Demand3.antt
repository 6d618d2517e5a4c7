-- Demand 3 in the paper's words, for every table without handed rows of its own and every plan of cuts.
-- Assumes nothing.
use mathlib.Core.List.{List}
use mathlib.Core.Logic.{◌⊎◌, inl, inr}
use mathlib.Core.Path.{◌≡◌, refl, sym, ◌∙◌}
use Prim.Native.Nat.{ℕ, ◌-◌, ◌≤◌, ◌<◌}
use native.Mathlib.Omega.{arith}
use Rattle.parsimony.specs.Allowed.{most_handed}
use Rattle.parsimony.specs.Barred.{barred}
use Rattle.parsimony.specs.Column.{Column, column_of}
use Rattle.parsimony.specs.Labelling.{IsScore}
use Rattle.parsimony.specs.Row.{row, score, total}
use Rattle.parsimony.specs.Sound.{Sound}
use Rattle.parsimony.specs.Sum.{sum}
use Rattle.parsimony.specs.Table.{handed}
use Rattle.parsimony.specs.Tree.{Kids, tip, two}
use Rattle.parsimony.proofs.ColumnLaws.{whole_sound}
use Rattle.parsimony.proofs.Fits.{whole_most, whole_tip}
use Rattle.parsimony.proofs.Order.{by_eq}
use Rattle.parsimony.proofs.Sums.{sum_same}
use Rattle.promises.specs.CallRules.{Allowed}
use Rattle.promises.specs.Input.{Input, nodes, tips_in, column}
use Rattle.promises.specs.Results.{IsLabelling, IsSet, IsEntry}
use Rattle.promises.specs.Starts.{StateStart, SetStart, labels_for, sets_for}
use Rattle.promises.specs.Input.{Start}
use Rattle.promises.proofs.Meaning.{score_right, labelling_right, set_right, entry_right}
use Rattle.cuts.specs.Call.{Answers}
use Rattle.cuts.specs.Cut.{CutAt, part}
use Rattle.cuts.specs.Cuttable.{Cuttable}
use Rattle.cuts.specs.Nodes.{MayCut, cuts_at, nodes_cut}
use Rattle.cuts.specs.Plan.{Plan, SendsUp, ScoresBy, LabelsBy, SetsBy, Suits, Everywhere}
use Rattle.cuts.proofs.AnyNodes.{nodes_suit, nodes_exactly}
use Rattle.cuts.proofs.PlanMade.{plan_sends, plan_scores, plan_labels, plan_sets}
use Rattle.cuts.proofs.PlanResults.{
  sends_right,
  sent_right,
  scores_right,
  labels_right,
  sets_right,
  plan_answers,
}

-- a row entry of a column without handed rows may be handed up
whole_small : (P : Column) → Sound 0 P → (v x : ℕ) → v ≤ P.last → x < P.states → (k : Kids) → P.kids v ≡ k
    → (row P v x ≤ most_handed) ⊎ (row P v x ≡ barred)
whole_small P sound v x h hx tip e =
    by_eq (row P v x) barred (λ bar. inr bar)
    (λ free. inl (let z = whole_tip P sound v x h e hx free in omega arith))
whole_small P sound v x h hx (two a b) e = inl (whole_most P sound v a b x h e hx)

-- A table that keeps the rules and has no handed rows may be cut.
pub whole_cuttable : (W : Input) → Allowed W → tips_in handed W ≡ 0 → Cuttable W
unfolding column_of
whole_cuttable W table none =
    record {
      table = table;
      small = λ j v x hj h hx.
          whole_small (column W j)
          (whole_sound W.left W.right W.s W.costs W.c W.cells W.handed j table.legal
          table.costs table.cells table.handed hj none) v x (omega arith) hx ((column W j).kids v) refl;
    }

module _ (W : Input) (table : Allowed W) (none : tips_in handed W ≡ 0) (plan : Plan) where
  ok : Cuttable W
  ok = whole_cuttable W table none

  -- No call of a plan is refused, given room, a column and a start, however often pieces are cut again.
  pub cut_answers : Everywhere Answers plan W
  cut_answers = plan_answers plan W ok

  -- The scores put together are the whole's: each the least cost over all labellings of the whole that agree with its
  -- tips.
  pub cut_scores : (S : ℕ → ℕ) → ScoresBy plan W S → (j : ℕ) → j < W.c → IsScore (column W j) (S j)
  cut_scores S by j hj = score_right W table j hj (S j) (scores_right plan W S ok by j hj)

  -- Their sum is the total.
  pub cut_total : (S : ℕ → ℕ) → ScoresBy plan W S
      → sum S W.c ≡ total W.left W.right W.s W.costs W.c W.cells W.handed
  unfolding total
  cut_total S by = sum_same S (λ j. score (column W j)) W.c (λ j hj. scores_right plan W S ok by j hj)

  -- The labels put together are the whole's, from any start.
  pub cut_labels : (j : ℕ) (start : Start) (l : ℕ → ℕ) → j < W.c → StateStart W j start → LabelsBy plan W j start l
      → IsLabelling (column W j) start l
  cut_labels j start l hj fit by =
      labelling_right W table j hj start l fit (labels_right plan W j start l ok hj fit by)

  -- The sets put together are the whole's, from any start.
  pub cut_sets : (j : ℕ) (start : Start) (S : ℕ → ℕ) → j < W.c → SetStart W j start → SetsBy plan W j start S
      → (v : ℕ) → v < nodes W → IsSet (column W j) start v (S v)
  cut_sets j start S hj fit by v h =
      set_right W table j hj start v (S v) fit h (sets_right plan W j start S ok hj fit by v h)

  -- The rows put together are those that the whole hands up.
  pub cut_rows : (up : ℕ → ℕ → ℕ) → SendsUp plan W up → (j x : ℕ) → j < W.c → x < W.s
      → IsEntry (column W j) x (up j x)
  unfolding column_of
  cut_rows up by j x hj hx = entry_right W table j hj x (up j x) hx (sends_right plan W up ok by j x hj hx)

  -- The row that a part sends up is the whole's row at the node that was cut.
  pub cut_sent : (v : ℕ) (sent : ℕ → ℕ → ℕ) → CutAt W v → SendsUp plan (part W v) sent
      → (j x : ℕ) → j < W.c → x < W.s → sent j x ≡ row (column W j) v x
  cut_sent v sent cut by = sent_right plan W v sent ok cut by

  -- Where the plan's cuts are allowed, calls put together what the whole gives: its scores, its labels and its sets,
  -- from any start, and the rows that it hands up.
  module _ (suits : Suits plan W) where
    pub scores_made : ScoresBy plan W (λ j. score (column W j))
    scores_made = plan_scores plan W _ ok suits (λ j hj. refl)

    pub labels_made : (j : ℕ) (start : Start) → j < W.c → StateStart W j start
        → LabelsBy plan W j start (labels_for (column W j) start)
    labels_made j start hj fit = plan_labels plan W j start _ ok suits hj fit (λ v h. refl)

    pub sets_made : (j : ℕ) (start : Start) → j < W.c → SetStart W j start
        → SetsBy plan W j start (sets_for (column W j) start)
    sets_made j start hj fit = plan_sets plan W j start _ ok suits hj fit (λ v h. refl)

    pub rows_made : SendsUp plan W (λ j x. row (column W j) (nodes W - 1) x)
    rows_made = plan_sends plan W _ ok suits (λ j x hj hx. refl)

  -- What is put together by any other plan is the same; not to cut is one.
  module _ (other : Plan) where
    pub same_scores : (S T : ℕ → ℕ) → ScoresBy plan W S → ScoresBy other W T → (j : ℕ) → j < W.c → S j ≡ T j
    same_scores S T by to j hj = scores_right plan W S ok by j hj ∙ sym (scores_right other W T ok to j hj)

    pub same_labels_lem : (j : ℕ) (start : Start) (l m : ℕ → ℕ) → j < W.c → StateStart W j start
        → LabelsBy plan W j start l → LabelsBy other W j start m → (v : ℕ) → v < nodes W → l v ≡ m v
    same_labels_lem j start l m hj fit by to v h =
        labels_right plan W j start l ok hj fit by v h ∙ sym (labels_right other W j start m ok hj fit to v h)

    pub same_sets_lem : (j : ℕ) (start : Start) (S T : ℕ → ℕ) → j < W.c → SetStart W j start → SetsBy plan W j start S
        → SetsBy other W j start T → (v : ℕ) → v < nodes W → S v ≡ T v
    same_sets_lem j start S T hj fit by to v h =
        sets_right plan W j start S ok hj fit by v h ∙ sym (sets_right other W j start T ok hj fit to v h)

-- Any inner nodes but the root: the table may be cut at all of them, and calls put together what the whole gives.
module _ (W : Input) (table : Allowed W) (none : tips_in handed W ≡ 0) (vs : List ℕ) (may : MayCut W 0 vs) where
  -- The plan that cuts the table at these nodes suits it.
  pub any_nodes : Suits (cuts_at W vs) W
  any_nodes = nodes_suit W (whole_cuttable W table none) vs may

  -- It cuts the table at these nodes and nowhere else.
  pub any_nodes_exactly : nodes_cut (cuts_at W vs) W (λ u. u) ≡ vs
  any_nodes_exactly = nodes_exactly W (whole_cuttable W table none) vs may

  -- By calls on its pieces the whole's scores are put together,
  pub nodes_scores : ScoresBy (cuts_at W vs) W (λ j. score (column W j))
  nodes_scores = scores_made W table none (cuts_at W vs) any_nodes

  -- its labels, from any start,
  pub nodes_labels : (j : ℕ) (start : Start) → j < W.c → StateStart W j start
      → LabelsBy (cuts_at W vs) W j start (labels_for (column W j) start)
  nodes_labels = labels_made W table none (cuts_at W vs) any_nodes

  -- its sets, from any start,
  pub nodes_sets : (j : ℕ) (start : Start) → j < W.c → SetStart W j start
      → SetsBy (cuts_at W vs) W j start (sets_for (column W j) start)
  nodes_sets = sets_made W table none (cuts_at W vs) any_nodes

  -- and the rows that it hands up.
  pub nodes_rows : SendsUp (cuts_at W vs) W (λ j x. row (column W j) (nodes W - 1) x)
  nodes_rows = rows_made W table none (cuts_at W vs) any_nodes

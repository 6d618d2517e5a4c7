-- The starts that come down a cut: what the rest gives its handed tip may be given for the part's root.
-- Assumes nothing.
use mathlib.Core.Path.{◌≡◌, refl, ap, sym, ◌∙◌, subst}
use Prim.Native.Nat.{ℕ, ◌-◌, ◌^◌, ◌≤◌, ◌<◌}
use native.Mathlib.Omega.{arith}
use Rattle.parsimony.specs.Allowed.{most_handed}
use Rattle.parsimony.specs.Column.{Column, column_of}
use Rattle.parsimony.specs.Label.{label_from, label}
use Rattle.parsimony.specs.Row.{row}
use Rattle.parsimony.specs.StateSet.{Member}
use Rattle.parsimony.specs.Table.{kids_of}
use Rattle.parsimony.specs.Tie.{rule_in_use}
use Rattle.parsimony.proofs.Order.{by_eq}
use Rattle.parsimony.proofs.Scoring.{label_least, rule_forced}
use Rattle.parsimony.proofs.Size.{row_bound, bound_root, bound_fits}
use Rattle.parsimony.proofs.StateSetLaws.{empty_none, member_within, member_some}
use Rattle.parsimony.proofs.TieLaws.{in_use}
use Rattle.promises.specs.Input.{Input, nodes, column}
use Rattle.promises.specs.Results.{StartLabels, TakenBy}
use Rattle.promises.specs.Starts.{OpenRoot, StateStart, SetStart, labels_for, sets_for}
use Rattle.promises.specs.Input.{Start}
use Rattle.std.specs.Prelude.{None, Some}
use Rattle.promises.proofs.Meaning.{labelling_of, set_of_lem}
use Rattle.promises.proofs.TableLaws.{table_sound}
use Rattle.cuts.specs.Cut.{CutAt, part, in_part}
use Rattle.cuts.specs.Cuttable.{Cuttable}
use Rattle.cuts.proofs.CutLaws.{part_stands}
use Rattle.cuts.proofs.PlanLaws.{top_row}

-- a start goes with the root's row: what one table allows, another with the same states and root's row does too
module _ (A B : Input) (j k : ℕ) (states : A.s ≡ B.s)
    (same : (x : ℕ) → x < B.s → row (column A j) (nodes A - 1) x ≡ row (column B k) (nodes B - 1) x) where
  pub state_start : (start : Start) → StateStart B k start → StateStart A j start
  state_start None ok = tt
  state_start (Some x) ok =
      record {
        state = subst (λ s. x < s) (sym states) ok.state;
        unbarred = λ bar. ok.unbarred (sym (same x ok.state) ∙ bar);
      }

  pub set_start : (start : Start) → SetStart B k start → SetStart A j start
  set_start None ok = tt
  set_start (Some w) ok =
      record {
        some = ok.some;
        within = subst (λ s. w < 2 ^ s) (sym states) ok.within;
        unbarred = λ x m bar. ok.unbarred x m (sym (same x (member_within B.s w x ok.within m)) ∙ bar);
      }

-- every node of a labelling has a state
labels_states : (P : Column) (start : Start) (l : ℕ → ℕ) → StartLabels P start l
    → (v : ℕ) → v ≤ P.last → l v < P.states
labels_states P None l free = free.least.agrees.states
labels_states P (Some x) l forced = forced.agrees.states

module _ (I : Input) (ok : Cuttable I) (j : ℕ) (hj : j < I.c) where
  -- the labelling by rows gives every node a state
  pub label_state : (start : Start) → StateStart I j start → (v : ℕ) → v < nodes I
      → labels_for (column I j) start v < I.s
  unfolding column_of
  label_state start right v h =
      labels_states (column I j) start _ (labelling_of I ok.table j hj start right).least v (omega arith)

  -- a state is taken at every node
  some_taken : (start : Start) → SetStart I j start → (v : ℕ) → (y : ℕ) × TakenBy (column I j) start v y
  unfolding column_of
  some_taken None right v =
      let P = column I j in
      let sound = table_sound I ok.table j hj in
      (label P v, (label P, label_least most_handed P sound, refl))
  some_taken (Some w) right v =
      let P = column I j in
      let sound = table_sound I ok.table j hj in
      let (x, hx, m) = member_some I.s w right.within right.some in
      let least = rule_forced most_handed P sound rule_in_use in_use x hx (right.unbarred x m) in
      (label_from rule_in_use P x v, (x, m, (label_from rule_in_use P x, least, refl)))

  -- so no node's set is empty
  pub set_some : (start : Start) → SetStart I j start → (v : ℕ) → v < nodes I
      → 0 < sets_for (column I j) start v
  set_some start right v h =
      let w = sets_for (column I j) start v in
      let is = set_of_lem I ok.table j hj start right v h in
      let (y, taken) = some_taken start right v in
      by_eq w 0 (λ e. absurd (empty_none y (subst (λ z. Member z y) e ((is.members y).1 taken)))) (λ ne. omega arith)

  module _ (v : ℕ) (cut : CutAt I v) where
    -- the part's root bars no state
    part_open : (x : ℕ) → x < I.s → OpenRoot (part I v) j x
    unfolding column_of
    part_open x hx bar =
        let P = column I j in
        let sound = table_sound I ok.table j hj in
        let (a, b, e) = cut.kids in
        let inside = cut.inside in
        let same = top_row I ok (in_part I v) v (part_stands I ok.table v cut) j x hj hx in
        let small = row_bound most_handed P sound v a b x (omega arith) (ap kids_of e) hx in
        let most = bound_root P.last most_handed P.kids sound.tree v (omega arith) in
        let fits = bound_fits most_handed P sound in
        omega arith

    -- A state that comes down may be given for the part's root.
    pub part_state : (x : ℕ) → x < I.s → StateStart (part I v) j (Some x)
    part_state x hx = record { state = hx; unbarred = part_open x hx }

    -- So may a set.
    pub part_set : (w : ℕ) → 0 < w → w < 2 ^ I.s → SetStart (part I v) j (Some w)
    part_set w some within =
        record {
          some = some;
          within = within;
          unbarred = λ x m. part_open x (member_within I.s w x within m);
        }

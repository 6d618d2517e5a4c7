-- What the promises say by meaning is what the definitions by rows give, in an allowed table.
-- Assumes nothing.
use mathlib.Core.Logic.{⊎_elim}
use mathlib.Core.Path.{◌≡◌, ap, sym, ◌∙◌, subst}
use Prim.Native.Nat.{ℕ, ◌^◌, ◌≤◌, ◌<◌}
use native.Mathlib.Omega.{arith}
use Rattle.parsimony.specs.Allowed.{most_handed}
use Rattle.parsimony.specs.Barred.{barred}
use Rattle.parsimony.specs.Column.{Column, column_of}
use Rattle.parsimony.specs.Label.{label_from, free_start, label}
use Rattle.parsimony.specs.Labelling.{LeastLabelling, LeastFrom, IsScore}
use Rattle.parsimony.specs.Least.{LowestLeast}
use Rattle.parsimony.specs.NodeSet.{free_set, sets}
use Rattle.parsimony.specs.Row.{through, row, score}
use Rattle.parsimony.specs.Sound.{Sound}
use Rattle.parsimony.specs.Tie.{rule_in_use, TakesTie}
use Rattle.parsimony.specs.Tree.{Rooted}
use Rattle.parsimony.proofs.Fits.{entry_fits}
use Rattle.parsimony.proofs.LabellingLaws.{labelling_same_agrees, labelling_same_cost}
use Rattle.parsimony.proofs.Order.{by_eq}
use Rattle.parsimony.proofs.RowLaws.{row_tip}
use Rattle.parsimony.proofs.Scoring.{
  score_unique,
  score_least,
  score_open,
  label_least,
  label_root_lowest,
  child_takes,
  rule_forced,
  rule_forced_costs,
  set_exactly,
  set_from_exactly,
  set_within,
}
use Rattle.parsimony.proofs.SetLaws.{sets_within}
use Rattle.parsimony.proofs.Size.{row_range, bound_fits}
use Rattle.parsimony.proofs.StateCountLaws.{gather_within}
use Rattle.parsimony.proofs.TieLaws.{in_use}
use Rattle.promises.specs.CallRules.{Allowed}
use Rattle.promises.specs.Input.{Input, nodes, column}
use Rattle.promises.specs.Results.{StartLabels, IsLabelling, IsSet, IsEntry}
use Rattle.promises.specs.Starts.{StateStart, SetStart, start_or, labels_for, sets_for}
use Rattle.promises.specs.Input.{Start}
use Rattle.std.specs.Prelude.{None, Some}
use Rattle.promises.proofs.ResultUnique.{label_unique, set_unique, entry_unique}
use Rattle.promises.proofs.TableLaws.{table_sound}

-- a labelling with the same states as a least one is least
least_same : (P : Column) → Rooted P.last P.kids → (l m : ℕ → ℕ) → ((v : ℕ) → v ≤ P.last → l v ≡ m v)
    → LeastLabelling P m → LeastLabelling P l
least_same P tree l m same least =
    record {
      agrees = labelling_same_agrees P tree m l (λ v h. sym (same v h)) least.agrees;
      least = λ other agrees.
          let c = labelling_same_cost P tree l m same in
          let b = least.least other agrees in
          omega arith;
    }

-- and so for those with a given root
from_same : (P : Column) → Rooted P.last P.kids → (x : ℕ) (l m : ℕ → ℕ) → ((v : ℕ) → v ≤ P.last → l v ≡ m v)
    → LeastFrom P x m → LeastFrom P x l
from_same P tree x l m same least =
    record {
      agrees = labelling_same_agrees P tree m l (λ v h. sym (same v h)) least.agrees;
      root = same P.last (omega arith) ∙ least.root;
      least = λ other agrees e.
          let c = labelling_same_cost P tree l m same in
          let b = least.least other agrees e in
          omega arith;
    }

-- and for those of any start
start_same : (P : Column) → Rooted P.last P.kids → (start : Start) (l m : ℕ → ℕ)
    → ((v : ℕ) → v ≤ P.last → l v ≡ m v) → StartLabels P start m → StartLabels P start l
start_same P tree None l m same f =
    record {
      least = least_same P tree l m same f.least;
      root = subst (LowestLeast (row P P.last) P.states) (sym (same P.last (omega arith))) f.root;
    }
start_same P tree (Some x) l m same f = from_same P tree x l m same f

-- a labelling with the same states as one from a start is one from that start
pub labelling_same : (P : Column) → Rooted P.last P.kids → (start : Start) (l m : ℕ → ℕ)
    → ((v : ℕ) → v ≤ P.last → l v ≡ m v) → IsLabelling P start m → IsLabelling P start l
labelling_same P tree start l m same f =
    record {
      least = start_same P tree start l m same f.least;
      children = λ p u hp c.
          let b = tree.below hp c in
          subst (λ y. TakesTie (through P (row P u) (l p)) P.states (l p) y) (sym (same u (omega arith)))
          (subst (λ y. TakesTie (through P (row P u) y) P.states y (m u)) (sym (same p hp)) (f.children p u hp c));
    }

-- the free start set is a set of states
free_within : (P : Column) → free_set P < 2 ^ P.states
unfolding free_set
free_within P = gather_within _ P.states

-- the root's row has in each entry the least cost with that root, or is barred where there is none
row_entry : (P : Column) → Sound most_handed P → (x : ℕ) → x < P.states → IsEntry P x (row P P.last x)
row_entry P sound x hx =
    record {
      small = by_eq (row P P.last x) barred (λ e. omega arith)
          (λ open_root. let f = entry_fits most_handed P sound P.last x (omega arith) hx open_root in omega arith);
      reached = λ open_root. (
        label_from rule_in_use P x,
        rule_forced most_handed P sound rule_in_use in_use x hx open_root,
        rule_forced_costs most_handed P sound rule_in_use in_use x hx,
      );
      shut = λ bar l agrees e. ⊎_elim
          (λ small. let f = bound_fits most_handed P sound in omega arith)
          (λ at_tip. agrees.tips P.last (omega arith) at_tip.0
          (ap (P.entry P.last) e ∙ sym (row_tip P sound.tree P.last x (omega arith) at_tip.0) ∙ bar))
          (row_range most_handed P sound P.last x (omega arith) hx);
    }

module _ (I : Input) (table : Allowed I) (j : ℕ) (inside : j < I.c) where
  abbrev P : Column
  P = column I j

  sound : Sound most_handed P
  sound = table_sound I table j inside

  -- the score by rows is the score, and there is no other
  pub score_right : (k : ℕ) → k ≡ score P → IsScore P k
  score_right k e = subst (IsScore P) (sym e) (score_least most_handed P sound)

  pub score_meant : (k : ℕ) → IsScore P k → k ≡ score P
  score_meant k meant = score_unique P k (score P) meant (score_least most_handed P sound)

  -- and is below the barred entry
  pub score_small : (k : ℕ) → IsScore P k → k < barred
  score_small k meant = let same = score_meant k meant in let least = score_open most_handed P sound in omega arith

  -- the root's row is what is handed up, and there is no other
  pub entry_right : (x e : ℕ) → x < I.s → e ≡ row P P.last x → IsEntry P x e
  unfolding column_of
  entry_right x e hx same = subst (IsEntry P x) (sym same) (row_entry P sound x hx)

  pub entry_meant : (x e : ℕ) → x < I.s → IsEntry P x e → e ≡ row P P.last x
  unfolding column_of
  entry_meant x e hx meant = entry_unique P x e (row P P.last x) meant (row_entry P sound x hx)

  -- the labelling by rows is that of the start, and there is no other
  pub labelling_of : (start : Start) → StateStart I j start → IsLabelling P start (labels_for P start)
  unfolding column_of label
  labelling_of None ok =
      record {
        least = record { least = label_least most_handed P sound; root = label_root_lowest most_handed P sound };
        children = λ p u. child_takes most_handed P sound (free_start P) p u;
      }
  labelling_of (Some x) ok =
      record {
        least = rule_forced most_handed P sound rule_in_use in_use x ok.state ok.unbarred;
        children = λ p u. child_takes most_handed P sound x p u;
      }

  pub labelling_right : (start : Start) (l : ℕ → ℕ) → StateStart I j start
      → ((v : ℕ) → v < nodes I → l v ≡ labels_for P start v) → IsLabelling P start l
  unfolding column_of
  labelling_right start l ok same =
      labelling_same P sound.tree start l (labels_for P start)
      (λ v h. same v (let odd = table.legal.size.odd in omega arith)) (labelling_of start ok)

  pub label_meant : (start : Start) (l : ℕ → ℕ) → StateStart I j start → IsLabelling P start l
      → (v : ℕ) → v < nodes I → l v ≡ labels_for P start v
  unfolding column_of
  label_meant start l ok meant v h =
      label_unique P sound.tree start l _ meant (labelling_of start ok) v (omega arith)

  -- what the sets start from is a set of states
  pub start_within : (start : Start) → SetStart I j start → start_or start (free_set P) < 2 ^ I.s
  unfolding column_of
  start_within None ok = free_within P
  start_within (Some w) ok = ok.within

  -- the sets by rows are those of the start, and there are no others
  pub set_of_lem : (start : Start) → SetStart I j start → (v : ℕ) → v < nodes I → IsSet P start v (sets_for P start v)
  unfolding column_of sets
  set_of_lem None ok v h =
      record {
        within = set_within most_handed P sound v (omega arith);
        members = λ y. set_exactly most_handed P sound v y (omega arith);
      }
  set_of_lem (Some w) ok v h =
      record {
        within = sets_within most_handed P sound w ok.within v (omega arith);
        members = λ y. set_from_exactly most_handed P sound w ok.within ok.unbarred v y (omega arith);
      }

  pub set_right : (start : Start) (v w : ℕ) → SetStart I j start → v < nodes I → w ≡ sets_for P start v
      → IsSet P start v w
  set_right start v w ok h same = subst (IsSet P start v) (sym same) (set_of_lem start ok v h)

  pub set_meant : (start : Start) (v w : ℕ) → SetStart I j start → v < nodes I → IsSet P start v w
      → w ≡ sets_for P start v
  set_meant start v w ok h meant = set_unique P start v w _ meant (set_of_lem start ok v h)

-- Demand 2 over every sound column: the score is least and reached, the labelling returned is least and takes the tie
-- that is to be taken, and a node's set holds exactly the states that least labellings take there; the same for forced
-- starts.
-- Assumes nothing.
use mathlib.Core.Logic.{◌↔◌}
use mathlib.Core.Path.{◌≡◌, refl, ap, sym, ◌∙◌, subst}
use Prim.Native.Nat.{ℕ, ◌^◌, ◌≤◌, ◌<◌}
use native.Mathlib.Omega.{arith}
use borrow.Author.Tests.{eq-eqb, eqb-true}
use lib.Dec.{eqb}
use Rattle.parsimony.specs.Barred.{barred}
use Rattle.parsimony.specs.Column.{Column}
use Rattle.parsimony.specs.Label.{choose, label_from, free_start, label}
use Rattle.parsimony.specs.Labelling.{Agrees, cost_of, LeastLabelling, LeastFrom, IsScore}
use Rattle.parsimony.specs.Least.{LowestLeast}
use Rattle.parsimony.specs.NodeSet.{Taken, TakenFrom, sets_from, free_set, sets}
use Rattle.parsimony.specs.Row.{through, row, score}
use Rattle.parsimony.specs.Sound.{Sound}
use Rattle.parsimony.specs.StateSet.{Member}
use Rattle.parsimony.specs.Tie.{TieRule, rule_in_use, TakesTie}
use Rattle.parsimony.specs.Tree.{Has}
use Rattle.parsimony.proofs.LabelLaws.{
  TightLabels,
  States,
  tight_agrees,
  tight_costs,
  costs_least,
  costs_tight,
  label_meets,
  label_from_costs,
  label_from_least,
}
use Rattle.parsimony.proofs.LeastLaws.{least_below, least_low, low_within, low_lowest}
use Rattle.parsimony.proofs.SetLaws.{TightAt, sets_meet, sets_within, sets_taken, taken_sets}
use Rattle.parsimony.proofs.Size.{bound_fits, row_open}
use Rattle.parsimony.proofs.StateCountLaws.{gather_member, gather_within}
use Rattle.parsimony.proofs.TieLaws.{in_use, in_use_takes}

-- two scores of a column are equal
pub score_unique : (P : Column) (j k : ℕ) → IsScore P j → IsScore P k → j ≡ k
score_unique P j k hj hk =
    let (l, al, el) = hj.reached in
    let (m, am, em) = hk.reached in
    let a = hk.least l al in
    let b = hj.least m am in
    omega arith

module _ (most : ℕ) (P : Column) (sound : Sound most P) where
  free_state : free_start P < P.states
  unfolding free_start
  free_state = low_within (row P P.last) P.states sound.states

  free_entry : row P P.last (free_start P) ≡ score P
  unfolding free_start score
  free_entry = sym (least_low (row P P.last) P.states)

  score_entry : (x : ℕ) → x < P.states → score P ≤ row P P.last x
  unfolding score
  score_entry x h = least_below (row P P.last) P.states x h

  -- the score is not barred
  pub score_open : score P < barred
  score_open =
      let (y, hy, small) = row_open most P sound P.last (omega arith) in
      let s = score_entry y hy in
      let f = bound_fits most P sound in
      omega arith

  -- no labelling costs less than the score
  pub score_no_less : (l : ℕ → ℕ) → Agrees P l → score P ≤ cost_of P l
  score_no_less l agrees =
      let c = costs_least most P sound l agrees.states in
      let s = score_entry (l P.last) (agrees.states P.last (omega arith)) in
      omega arith

  module _ (rule : ℕ → ℕ → (ℕ → ℕ) → ℕ) (ties : TieRule rule) where
    -- the labelling from the free start, by any tie rule, agrees with the tips and costs exactly the score
    pub rule_agrees : Agrees P (label_from rule P (free_start P))
    rule_agrees =
        (label_from_least most P sound rule ties (free_start P) free_state
        (λ e. let o = score_open in let q = free_entry in omega arith)).agrees

    pub rule_costs : cost_of P (label_from rule P (free_start P)) ≡ score P
    rule_costs = label_from_costs most P sound rule ties (free_start P) free_state ∙ free_entry

    -- so it is a least labelling
    pub rule_least : LeastLabelling P (label_from rule P (free_start P))
    rule_least =
        record {
          agrees = rule_agrees;
          least = λ other agrees. let c = rule_costs in let s = score_no_less other agrees in omega arith;
        }

    -- forced to a state that the root's row does not bar, it is least among the labellings with that root
    pub rule_forced : (x : ℕ) → x < P.states → (row P P.last x ≡ barred → ⊥) → LeastFrom P x (label_from rule P x)
    rule_forced x hx open_root = label_from_least most P sound rule ties x hx open_root

    -- and costs exactly the root's entry there
    pub rule_forced_costs : (x : ℕ) → x < P.states → cost_of P (label_from rule P x) ≡ row P P.last x
    rule_forced_costs x hx = label_from_costs most P sound rule ties x hx

    -- it starts where it is told, and each child is as the choosing step says
    pub rule_root : (x : ℕ) → label_from rule P x P.last ≡ x
    rule_root x = (label_meets most P sound rule ties x).root

    pub rule_child : (x p u : ℕ) → p ≤ P.last → Has u (P.kids p)
        → label_from rule P x u ≡ choose rule P (row P u) (label_from rule P x p)
    rule_child x p u h c = (label_meets most P sound rule ties x).edge h c

    -- from the free start the root takes the lowest least state of its row
    pub rule_lowest : LowestLeast (row P P.last) P.states (label_from rule P (free_start P) P.last)
    unfolding free_start
    rule_lowest =
        subst (LowestLeast (row P P.last) P.states) (sym (rule_root (free_start P)))
        (low_lowest (row P P.last) P.states sound.states)

  -- the labelling returned agrees with the tips
  pub label_agrees : Agrees P (label P)
  unfolding label
  label_agrees = rule_agrees rule_in_use in_use

  -- and costs exactly the score
  pub label_costs : cost_of P (label P) ≡ score P
  unfolding label
  label_costs = rule_costs rule_in_use in_use

  -- so it is a least labelling
  pub label_least : LeastLabelling P (label P)
  unfolding label
  label_least = rule_least rule_in_use in_use

  -- the score by rows is the score
  pub score_least : IsScore P (score P)
  score_least = record { reached = (label P, label_agrees, label_costs); least = score_no_less }

  -- the root of the labelling returned is the lowest least state of the root's row
  pub label_root_lowest : LowestLeast (row P P.last) P.states (label P P.last)
  unfolding label
  label_root_lowest = rule_lowest rule_in_use in_use

  -- from any start, each child takes the tie under its parent's state
  pub child_takes : (x p u : ℕ) → p ≤ P.last → Has u (P.kids p)
      → TakesTie (through P (row P u) (label_from rule_in_use P x p)) P.states (label_from rule_in_use P x p)
      (label_from rule_in_use P x u)
  unfolding choose
  child_takes x p u h c =
      let y = label_from rule_in_use P x p in
      let f = through P (row P u) y in
      subst (TakesTie f P.states y) (sym (rule_child rule_in_use in_use x p u h c))
      (in_use_takes f P.states y sound.states)

  pub label_child_takes : (p u : ℕ) → p ≤ P.last → Has u (P.kids p)
      → TakesTie (through P (row P u) (label P p)) P.states (label P p) (label P u)
  unfolding label
  label_child_takes p u h c = child_takes (free_start P) p u h c

  -- a labelling is least exactly when its root is least and every edge is tight
  least_tight : (l : ℕ → ℕ) → LeastLabelling P l → TightLabels P l × (row P P.last (l P.last) ≡ score P)
  least_tight l least =
      let states = least.agrees.states in
      let best = least.least (label P) label_agrees in
      let c = label_costs in
      let lower = costs_least most P sound l states in
      let s = score_entry (l P.last) (states P.last (omega arith)) in
      (costs_tight most P sound l states (omega arith), omega arith)

  tight_least : (l : ℕ → ℕ) → States P l → TightLabels P l → row P P.last (l P.last) ≡ score P
      → LeastLabelling P l
  tight_least l states tight root =
      record {
        agrees = tight_agrees most P sound l states tight (λ e. let o = score_open in omega arith);
        least = λ other agrees.
            let c = tight_costs most P sound l states tight in
            let s = score_no_less other agrees in
            omega arith;
      }

  -- the same among the labellings with the root in x
  from_tight : (x : ℕ) (l : ℕ → ℕ) → x < P.states → (row P P.last x ≡ barred → ⊥) → LeastFrom P x l
      → TightLabels P l
  from_tight x l hx open_root least =
      let best = least.least (label_from rule_in_use P x) (rule_forced rule_in_use in_use x hx open_root).agrees
      (rule_root rule_in_use in_use x) in
      let c = rule_forced_costs rule_in_use in_use x hx in
      let e = ap (row P P.last) least.root in
      costs_tight most P sound l least.agrees.states (omega arith)

  tight_from : (l : ℕ → ℕ) → States P l → TightLabels P l → (row P P.last (l P.last) ≡ barred → ⊥)
      → LeastFrom P (l P.last) l
  tight_from l states tight open_root =
      record {
        agrees = tight_agrees most P sound l states tight open_root;
        root = refl;
        least = λ other agrees e.
            let c = tight_costs most P sound l states tight in
            let o = costs_least most P sound other agrees.states in
            let q = ap (row P P.last) e in
            omega arith;
      }

  free_within : free_set P < 2 ^ P.states
  unfolding free_set
  free_within = gather_within _ P.states

  -- the free start set holds the states at which the root's row is least
  pub free_member : (x : ℕ) → Member (free_set P) x ↔ ((x < P.states) × (row P P.last x ≡ score P))
  unfolding free_set
  free_member x =
      let test = gather_member (λ y. eqb (row P P.last y) (score P)) P.states x in (
        (λ m. let (h, e) = test.0 m in (h, eqb-true _ _ e)),
        (λ m. test.1 (m.0, eq-eqb _ _ m.1)),
      )

  -- a node's set holds a state exactly when some least labelling takes it there
  pub set_exactly : (v y : ℕ) → v ≤ P.last → Member (sets P v) y ↔ Taken P v y
  unfolding sets
  set_exactly v y h = (
    (λ m. let t : TightAt P (free_set P) v y = sets_taken most P sound (free_set P) free_within v y h m in
        let root = ((free_member (t.labels P.last)).0 t.root).1 in
        (t.labels, tight_least t.labels t.states t.tight root, t.takes)),
    (λ taken. let (l, least, e) = taken in
        let (tight, root) = least_tight l least in
        let states = least.agrees.states in
        taken_sets most P sound (free_set P) free_within v y h
        (record {
          labels = l;
          states = states;
          tight = tight;
          root = (free_member (l P.last)).1 (states P.last (omega arith), root);
          takes = e;
        })),
  )

  module _ (w : ℕ) (hw : w < 2 ^ P.states) (open_root : (x : ℕ) → Member w x → row P P.last x ≡ barred → ⊥) where
    -- from a start set of states that the root's row does not bar, a node's set holds a state exactly when, for some
    -- member x, some labelling least among those with the root in x takes it there
    pub set_from_exactly : (v y : ℕ) → v ≤ P.last → Member (sets_from P w v) y ↔ TakenFrom P w v y
    set_from_exactly v y h = (
      (λ m. let t : TightAt P w v y = sets_taken most P sound w hw v y h m in
          let l = t.labels in
          let least = tight_from l t.states t.tight (open_root (l P.last) t.root) in
          (l P.last, t.root, (l, least, t.takes))),
      (λ taken. let (x, mx, (l, least, e)) = taken in
          let rooted : Member w (l P.last) = subst (Member w) (sym least.root) mx in
          let hx : x < P.states =
          subst (λ z. z < P.states) least.root (least.agrees.states P.last (omega arith)) in
          taken_sets most P sound w hw v y h
          (record {
            labels = l;
            states = least.agrees.states;
            tight = from_tight x l hx (open_root x mx) least;
            root = rooted;
            takes = e;
          })),
    )

    -- the root's set is the start
    pub set_from_root : sets_from P w P.last ≡ w
    set_from_root = (sets_meet most P sound w hw).root

  -- the root's set without a start holds its row's least states
  pub set_root : sets P P.last ≡ free_set P
  unfolding sets
  set_root = (sets_meet most P sound (free_set P) free_within).root

  -- node sets are sets of states
  pub set_within : (v : ℕ) → v ≤ P.last → sets P v < 2 ^ P.states
  unfolding sets
  set_within v h = sets_within most P sound (free_set P) free_within v h

-- The two kinds of marks, states and sets of states, keep the laws of marks.
-- Assumes nothing.
use Rattle.std.proofs.Common.{ℕ, ◌^◌, ◌<◌, ◌≤◌, ap, ap₂, eqb, arith}
use Rattle.std.proofs.Math.Pow.{pow_mono}
use Rattle.parsimony.specs.Least.{low}
use Rattle.parsimony.specs.Limits.{most_states, cell_bits}
use Rattle.parsimony.specs.Barred.{plus}
use Rattle.parsimony.specs.StateSet.{holds}
use Rattle.parsimony.specs.Test.{both}
use Rattle.parsimony.proofs.LeastLaws.{low_within, low_same, least_same}
use Rattle.parsimony.proofs.StateCountLaws.{gather_within, gather_same, some_same}
use Rattle.parsimony.proofs.TieLaws.{in_use}
use Rattle.row_step.specs.Lane.{lane}
use Rattle.choice_steps.specs.Ties.{least_set, least_below, reached_under}
use Rattle.choice_steps.proofs.SetSteps.{least_set_same}
use Rattle.std.specs.Prelude.{None, Some, IfSome}
use Rattle.promises.specs.CallWrites.{StatesOf, SetsOf}
use Rattle.promises.specs.Input.{Input, Start}
use Rattle.promises.specs.Starts.{StateStart, SetStart}
use Rattle.choice_steps.proofs.ResultLaws.{states_walked, sets_walked, start_fits}
use Rattle.choice_steps.specs.Marks.{chosen, settled, IsState, IsCell, MarkLaws}

-- a state that may be given is a state
state_fits : (I : Input) (j : ℕ) (start : Start) → StateStart I j start → IfSome start (λ x. IsState I.s x)
state_fits I j None may = tt
state_fits I j (Some x) may = may.state

pub state_laws : MarkLaws IsState low chosen StateStart StatesOf
unfolding chosen
state_laws = record {
  wide = λ s x most fits. omega arith;
  free_fits = λ f s some most. low_within f s some;
  free_same = λ f g s some same. low_same f g s same;
  pass_fits = λ s cost f x some most. (in_use.ties s x (lane (cost x) f) some).within;
  pass_same = λ s cost f g x some same. in_use.same s x _ _ (λ y h. ap (plus (cost x y)) (same y h));
  may_fits = λ I table j inside start may. state_fits I j start may;
  means = λ I table j inside rows held start l l' may walked. states_walked I table j inside rows held start may walked;
}

-- a set of at most the most states fits a cell
gathers_fit : (s w : ℕ) → s ≤ most_states → w < 2 ^ s → w < 2 ^ cell_bits
gathers_fit s w most within = let power : 2 ^ s ≤ 2 ^ cell_bits = pow_mono most in omega arith

pub set_laws : MarkLaws IsCell least_set settled SetStart SetsOf
unfolding settled reached_under least_below
set_laws = record {
  wide = λ s x most fits. fits;
  free_fits = λ f s some most. gathers_fit s _ most (gather_within _ s);
  free_same = least_set_same;
  pass_fits = λ s cost f x some most. gathers_fit s _ most (gather_within _ s);
  pass_same = λ s cost f g w some same. gather_same _ _ s (λ y hy. some_same _ _ s (λ x hx. ap (both (holds w x))
      (ap₂ eqb (ap (plus (cost x y)) (same y hy)) (least_same _ _ s some (λ z hz. ap (plus (cost x z)) (same z hz))))));
  may_fits = λ I table j inside start may. start_fits I table j inside start may;
  means = λ I table j inside rows held start l l' may walked. sets_walked I table j inside rows held start may walked;
}

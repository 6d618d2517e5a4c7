-- What the tests of a start tell.
-- Assumes nothing.
use mathlib.Core.Bool.{Bool, true, false}
use mathlib.Core.Path.{◌≡◌, sym, subst}
use Prim.Native.Nat.{ℕ, ◌+◌, ◌^◌, ◌≤◌, ◌<◌}
use native.Mathlib.Omega.{arith}
use Rattle.parsimony.specs.StateSet.{Member}
use Rattle.parsimony.specs.Tells.{Tells}
use Rattle.parsimony.proofs.Order.{by_eq}
use Rattle.parsimony.proofs.StateSetLaws.{member_within}
use Rattle.parsimony.proofs.TellsLaws.{tells_same}
use Rattle.promises.specs.Input.{Input}
use Rattle.promises.specs.Starts.{OpenRoot, StateStart, SetStart}
use Rattle.promises.specs.Input.{Start}
use Rattle.std.specs.Prelude.{None, Some}

module _ (I : Input) (j : ℕ) (start : Start) where
  -- no start is allowed
  pub state_free : start ≡ None → Tells (StateStart I j start) true
  state_free e = subst (λ t. Tells (StateStart I j t) true) (sym e) (record { told = tt })

  pub set_free : start ≡ None → Tells (SetStart I j start) true
  set_free e = subst (λ t. Tells (SetStart I j t) true) (sym e) (record { told = tt })

  -- a state at s or above is not
  pub state_high : (x : ℕ) → start ≡ Some x → I.s ≤ x → Tells (StateStart I j start) false
  state_high x e h =
      subst (λ t. Tells (StateStart I j t) false) (sym e) (record { told = λ fits. omega (arith, fits.state) })

  -- a state below s is if the root does not bar it
  pub state_below : (x : ℕ) (b : Bool) → start ≡ Some x → x < I.s → Tells (OpenRoot I j x) b
      → Tells (StateStart I j start) b
  state_below x b e h t =
      subst (λ u. Tells (StateStart I j u) b) (sym e)
      (tells_same (λ o. record { state = h; unbarred = o }) (λ fits. fits.unbarred) t)

  -- the empty set is not
  pub set_empty : (w : ℕ) → start ≡ Some w → w ≡ 0 → Tells (SetStart I j start) false
  set_empty w e h =
      subst (λ t. Tells (SetStart I j t) false) (sym e) (record { told = λ fits. omega (arith, fits.some) })

  -- nor one with a state at s or above
  pub set_high : (w : ℕ) → start ≡ Some w → 2 ^ I.s ≤ w → Tells (SetStart I j start) false
  set_high w e h =
      subst (λ t. Tells (SetStart I j t) false) (sym e) (record { told = λ fits. omega (arith, fits.within) })

  -- any other is if the root bars none of its members
  pub set_below : (w : ℕ) (b : Bool) → start ≡ Some w → 0 < w → w < 2 ^ I.s
      → Tells ((x : ℕ) → Member w x → OpenRoot I j x) b → Tells (SetStart I j start) b
  set_below w b e pos h t =
      subst (λ u. Tells (SetStart I j u) b) (sym e)
      (tells_same (λ o. record { some = pos; within = h; unbarred = o }) (λ fits. fits.unbarred) t)

-- the members below x of a set are not barred at the root
unfoldable pub OpenBelow : Input → ℕ → ℕ → ℕ → Type 0
OpenBelow I j w x = (y : ℕ) → y < x → Member w y → OpenRoot I j y

module _ (I : Input) (j w : ℕ) where
  pub open_none : OpenBelow I j w 0
  unfolding OpenBelow
  open_none y h m = absurd (omega arith)

  -- a member that is not barred
  pub open_more : (x : ℕ) → OpenBelow I j w x → OpenRoot I j x → OpenBelow I j w (x + 1)
  unfolding OpenBelow
  open_more x all here y h m = by_eq y x (λ e. subst (OpenRoot I j) (sym e) here) (λ ne. all y (omega arith) m)

  -- a state that is no member
  pub open_other : (x : ℕ) → OpenBelow I j w x → (Member w x → ⊥) → OpenBelow I j w (x + 1)
  unfolding OpenBelow
  open_other x all none y h m = by_eq y x (λ e. absurd (none (subst (Member w) e m))) (λ ne. all y (omega arith) m)

  -- all members
  pub open_all : (s x : ℕ) → w < 2 ^ s → s ≤ x → OpenBelow I j w x → Tells ((y : ℕ) → Member w y → OpenRoot I j y) true
  unfolding OpenBelow
  open_all s x hw h all = record { told = λ y m. let b = member_within s w y hw m in all y (omega arith) m }

  -- not all
  pub open_not : (x : ℕ) → Member w x → (OpenRoot I j x → ⊥) → Tells ((y : ℕ) → Member w y → OpenRoot I j y) false
  open_not x m none = record { told = λ all. none (all x m) }

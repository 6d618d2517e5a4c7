-- The loops that gather states: one state more, and one parent's state more.
-- Assumes nothing.
use mathlib.Core.Bool.{Bool, true, false}
use mathlib.Core.Logic.{inl, inr, ⊎_elim}
use mathlib.Core.Path.{◌≡◌, refl, ap, ap₂, sym, ◌∙◌, subst}
use Prim.Native.Nat.{ℕ, zero, suc, ◌+◌, ◌*◌, ◌^◌, ◌<◌}
use native.Mathlib.Nat.{add_comm, one-mul}
use native.Mathlib.Numerals.{add-one}
use native.Mathlib.Omega.{arith}
use borrow.Author.Tests.{eq-eqb, ne_eqb}
use lib.Bits.{or_shifted_r, or_lt}
use lib.Dec.{eqb}
use Rattle.parsimony.specs.Least.{least}
use Rattle.parsimony.specs.StateSet.{Member, holds, one, union, gather}
use Rattle.parsimony.specs.Tells.{Tells}
use Rattle.parsimony.specs.Test.{pick, both, some}
use Rattle.parsimony.proofs.LeastLaws.{least_same}
use Rattle.parsimony.proofs.Order.{pick_true, pick_false}
use Rattle.parsimony.proofs.StateCountLaws.{
  by_test,
  gather_within,
  gather_member,
  gather_same,
  some_true,
  some_here,
  both_right,
  both_true,
}
use Rattle.parsimony.proofs.StateSetLaws.{holds_true, holds_false, union_member, set_same}
use Rattle.row_step.specs.Lane.{lane}
use Rattle.choice_steps.specs.Ties.{reached_under, least_below, least_set}

gather_suc : (f : ℕ → Bool) (n : ℕ) → gather f (n + 1) ≡ gather f n + pick (f n) (2 ^ n) 0
unfolding gather
gather_suc f n = ap (gather f) (add-one n)

-- a state that passes the test joins the set
pub gather_more : (f : ℕ → Bool) (n : ℕ) → f n ≡ true → union (gather f n) (one n) ≡ gather f (n + 1)
unfolding one
gather_more f n h =
    ap (union (gather f n)) (sym (one-mul (2 ^ n)))
    ∙ or_shifted_r 1 n (gather f n) (gather_within f n)
    ∙ add_comm (1 * 2 ^ n) (gather f n)
    ∙ ap (λ k. gather f n + k) (one-mul (2 ^ n) ∙ sym (pick_true (2 ^ n) 0 h))
    ∙ sym (gather_suc f n)

-- any other does not
pub gather_other : (f : ℕ → Bool) (n : ℕ) → f n ≡ false → gather f n ≡ gather f (n + 1)
gather_other f n h =
    let e : pick (f n) (2 ^ n) 0 ≡ 0 = pick_false (2 ^ n) 0 h in
    let s = gather_suc f n in
    omega arith

-- of no states the set is empty
pub gather_none : (f : ℕ → Bool) → 0 ≡ gather f 0
unfolding gather
gather_none f = refl

-- of no states none is least
pub least_set_none : (f : ℕ → ℕ) (s : ℕ) → 0 ≡ least_below f s 0
unfolding least_below gather
least_set_none f s = refl

-- a state at which f is least joins
pub least_set_more : (f : ℕ → ℕ) (s y : ℕ) → f y ≡ least f s → union (least_below f s y) (one y) ≡ least_below f s (y + 1)
unfolding least_below
least_set_more f s y e = gather_more _ y (eq-eqb _ _ e)

-- any other does not
pub least_set_other : (f : ℕ → ℕ) (s y : ℕ) → (f y ≡ least f s → ⊥) → least_below f s y ≡ least_below f s (y + 1)
unfolding least_below
least_set_other f s y n = gather_other _ y (ne_eqb _ _ n)

-- the least of the same values are the same
pub least_set_same : (f g : ℕ → ℕ) (s : ℕ) → 0 < s → ((y : ℕ) → y < s → f y ≡ g y) → least_set f s ≡ least_set g s
unfolding least_below
least_set_same f g s some h = gather_same _ _ s (λ y hy. ap₂ eqb (h y hy) (least_same f g s some h))

-- a test on some number below n + 1: on n, or on some number below n
some_suc : (f : ℕ → Bool) (n : ℕ) → some f (n + 1) ≡ pick (f n) true (some f n)
unfolding some
some_suc f n = ap (some f) (add-one n)

-- the states that reach the least under parent's states below n, as sets
module _ (cost : ℕ → ℕ → ℕ) (entry : ℕ → ℕ) (s w : ℕ) where
  reach : ℕ → ℕ → Bool
  reach x y = eqb (lane (cost x) entry y) (least (lane (cost x) entry) s)

  test : ℕ → ℕ → Bool
  test y x = both (holds w x) (reach x y)

  passes : (x y : ℕ) → holds w x ≡ true → reach x y ≡ true → test y x ≡ true
  unfolding test
  passes x y hx r = both_true (holds w x) (reach x y) hx r

  reaches : (x y : ℕ) → test y x ≡ true → reach x y ≡ true
  unfolding test
  reaches x y t = both_right (holds w x) (reach x y) t

  fails : (x y : ℕ) → holds w x ≡ false → test y x ≡ false
  unfolding test both
  fails x y h = ap (λ k. both k (reach x y)) h

  under_gather : (n : ℕ) → reached_under cost entry s w n ≡ gather (λ y. some (test y) n) s
  unfolding reached_under test reach
  under_gather n = refl

  reached_gather : (x : ℕ) → least_set (lane (cost x) entry) s ≡ gather (reach x) s
  unfolding least_below reach
  reached_gather x = refl

  -- under no state of the parent there is none
  pub under_none : 0 ≡ reached_under cost entry s w 0
  unfolding some
  under_none = zeros s ∙ sym (under_gather 0)
    where
      zeros : (n : ℕ) → 0 ≡ gather (λ y. false) n
      zeros zero = gather_none (λ y. false)
      zeros (suc n) = zeros n ∙ gather_other (λ y. false) n refl ∙ ap (gather (λ y. false)) (add-one n)

  -- a state x that is in the parent's set adds those that reach the least under it
  pub under_more : (x : ℕ) (b : Bool) → Tells (Member w x) b → b ≡ true
      → union (reached_under cost entry s w x) (least_set (lane (cost x) entry) s) ≡ reached_under cost entry s w
      (x + 1)
  under_more x b told e =
      let hx : holds w x ≡ true = holds_true w x (subst (Tells (Member w x)) e told).told in
      ap (λ k. union k (least_set (lane (cost x) entry) s)) (under_gather x)
      ∙ ap (union (gather (λ y. some (test y) x) s)) (reached_gather x)
      ∙ set_same s _ _ (or_lt s _ _ (gather_within _ s) (gather_within _ s)) (gather_within _ s)
      (λ y hy. (to y hy hx, from y hy hx))
      ∙ sym (under_gather (x + 1))
    where
      to : (y : ℕ) → y < s → holds w x ≡ true → Member (union (gather (λ y. some (test y) x) s) (gather (reach x) s)) y
          → Member (gather (λ y. some (test y) (x + 1)) s) y
      to y hy hx m =
          (gather_member (λ y. some (test y) (x + 1)) s y).1 (
            hy,
            ⊎_elim
                (λ l. let (i, hi, t) = some_true (test y) x ((gather_member (λ y. some (test y) x) s y).0 l).1 in
                some_here (test y) (x + 1) i (omega arith) t)
                (λ r. some_here (test y) (x + 1) x (omega arith) (passes x y hx ((gather_member (reach x) s y).0 r).1))
                ((union_member (gather (λ y. some (test y) x) s) (gather (reach x) s) y).0 m),
          )

      from : (y : ℕ) → y < s → holds w x ≡ true → Member (gather (λ y. some (test y) (x + 1)) s) y
          → Member (union (gather (λ y. some (test y) x) s) (gather (reach x) s)) y
      from y hy hx m =
          (union_member (gather (λ y. some (test y) x) s) (gather (reach x) s) y).1
          (by_test (test y x)
          (λ t. inr ((gather_member (reach x) s y).1 (hy, reaches x y t)))
          (λ f. inl ((gather_member (λ y. some (test y) x) s y).1 (
            hy,
            sym (pick_false true (some (test y) x) f)
                ∙ sym (some_suc (test y) x)
                ∙ ((gather_member (λ y. some (test y) (x + 1)) s y).0 m).1,
          ))))

  -- one that is not adds none
  pub under_other : (x : ℕ) (b : Bool) → Tells (Member w x) b → b ≡ false
      → reached_under cost entry s w x ≡ reached_under cost entry s w (x + 1)
  under_other x b told e =
      under_gather x
      ∙ gather_same _ _ s (λ y hy. sym (some_suc (test y) x ∙ pick_false true (some (test y) x)
      (fails x y (holds_false w x (subst (Tells (Member w x)) e told).told))))
      ∙ sym (under_gather (x + 1))

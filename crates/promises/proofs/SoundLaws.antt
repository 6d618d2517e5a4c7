-- A table that has passed its tests keeps the rules 1 to 5. Its type says so as a proposition, which has one proof at
-- most; each rule is had back from it, since each is a proposition itself or is decided.
-- Assumes nothing.
use Rattle.std.proofs.Common.{◌≡◌, ◌⊎◌, inl, inr, ⊎_elim, ℕ, zero, suc, ◌+◌, ◌*◌, ◌<◌, ◌≤◌, get_or, subst, sym, arith}
use Rattle.std.proofs.Math.Logic.{∥∥₁_elim, ∥∥₁_prop}
use Rattle.std.proofs.Props.{props}
use Rattle.parsimony.specs.Allowed.{most_handed}
use Rattle.parsimony.specs.Barred.{barred}
use Rattle.parsimony.proofs.Order.{by_eq, by_lt}
use Rattle.promises.specs.CallRules.{Allowed}
use Rattle.promises.specs.Input.{Input}

-- one of f's first s values is not barred, or all are
some_open : (f : ℕ → ℕ) (s : ℕ) → ((x : ℕ) × (x < s) × (f x ≡ barred → ⊥)) ⊎ ((x : ℕ) → x < s → f x ≡ barred)
some_open f zero = inr (λ x h. absurd (omega arith))
some_open f (suc s) =
    ⊎_elim (λ (x, h, free). inl (x, omega arith, free))
    (λ lower. by_eq (f s) barred
    (λ bar. inr (λ x h. by_eq x s (λ e. subst (λ y. f y ≡ barred) (sym e) bar) (λ ne. lower x (omega arith))))
    (λ free. inl (s, omega arith, free)))
    (some_open f s)

-- a handed entry that is one or the other is known to be which
entry_known : (e : ℕ) → ∥ (e ≤ most_handed) ⊎ (e ≡ barred) ∥₁ → (e ≤ most_handed) ⊎ (e ≡ barred)
entry_known e known =
    by_lt most_handed e
    (λ high. inr (∥∥₁_elim known (hlevel props) (⊎_elim (λ low. absurd (omega arith)) (λ bar. bar))))
    (λ low. inl (omega arith))

-- a row that is not wholly barred has an entry that is found
row_known : (f : ℕ → ℕ) (s : ℕ) → ∥ ((x : ℕ) × (x < s) × (f x ≡ barred → ⊥)) ∥₁
    → (x : ℕ) × (x < s) × (f x ≡ barred → ⊥)
row_known f s known =
    ⊎_elim (λ some. some)
    (λ all. absurd (∥∥₁_elim known (hlevel props) (λ (x, h, free). free (all x h))))
    (some_open f s)

-- the rules of a table that keeps them
pub allowed_known : (I : Input) → ∥ Allowed I ∥₁ → Allowed I
allowed_known I known = record {
  legal = ∥∥₁_elim known (hlevel props) (λ a. a.legal);
  costs = ∥∥₁_elim known (hlevel props) (λ a. a.costs);
  cells = ∥∥₁_elim known (hlevel props) (λ a. a.cells);
  handed = record {
    count = ∥∥₁_elim known (hlevel props) (λ a. a.handed.count);
    range = λ i h. entry_known _ (∥∥₁_elim known ∥∥₁_prop (λ a. ∣ a.handed.range i h ∣₁));
    unbarred = λ i h. row_known (λ x. get_or I.handed (i * I.s + x) 0) I.s
        (∥∥₁_elim known ∥∥₁_prop (λ a. ∣ a.handed.unbarred i h ∣₁));
  };
}

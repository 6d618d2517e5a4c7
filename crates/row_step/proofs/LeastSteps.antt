-- The loops that look for a least value: where they start, and each turn.
-- Assumes nothing.
use mathlib.Core.Path.{◌≡◌, refl, ap, sym, ◌∙◌}
use Prim.Native.Nat.{ℕ, ◌+◌, ◌<◌, ◌≤◌}
use native.Mathlib.Numerals.{add-one}
use native.Mathlib.Omega.{arith}
use Rattle.parsimony.specs.Least.{low, least}
use Rattle.parsimony.proofs.LeastLaws.{low_one, low_new, low_old, least_low}

-- the places below y have been looked at: place is the lowest at which f is least
abbrev pub Looked : (ℕ → ℕ) → ℕ → ℕ → Type 0
Looked f y place = low f y ≡ place

-- at the start one place has been looked at
pub looked_one : (f : ℕ → ℕ) → Looked f 1 0
looked_one f = low_one f

-- a lower value stands at the new lowest place
pub looked_lower : (f : ℕ → ℕ) (y place : ℕ) → Looked f y place → f y < f place → Looked f (y + 1) y
looked_lower f y place l h = let e = ap f l in ap (low f) (add-one y) ∙ low_new f y (omega arith)

-- any other leaves it
pub looked_other : (f : ℕ → ℕ) (y place : ℕ) → Looked f y place → f place ≤ f y → Looked f (y + 1) place
looked_other f y place l h = let e = ap f l in ap (low f) (add-one y) ∙ low_old f y (omega arith) ∙ l

-- the same of the least value, without its place
pub least_one : (f : ℕ → ℕ) → f 0 ≡ least f 1
least_one f = ap f (sym (low_one f)) ∙ sym (least_low f 1)

pub least_lower : (f : ℕ → ℕ) (y best : ℕ) → best ≡ least f y → f y < best → f y ≡ least f (y + 1)
least_lower f y best l h =
    let e = least_low f y in
    ap f (sym (looked_lower f y (low f y) refl (omega arith))) ∙ sym (least_low f (y + 1))

pub least_other : (f : ℕ → ℕ) (y best : ℕ) → best ≡ least f y → best ≤ f y → best ≡ least f (y + 1)
least_other f y best l h =
    let e = least_low f y in
    l ∙ e ∙ ap f (sym (looked_other f y (low f y) refl (omega arith))) ∙ sym (least_low f (y + 1))

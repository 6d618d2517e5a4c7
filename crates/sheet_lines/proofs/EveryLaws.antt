-- A test of every byte of a text says what it should of each byte.
-- Assumes nothing.
use mathlib.Core.Bool.{Bool, true, false}
use mathlib.Core.List.{List}
use mathlib.Core.Path.{◌≡◌, refl, sym, subst, ◌∙◌}
use Prim.Native.Nat.{ℕ, zero, suc, ◌+◌, ◌<◌, ◌≤◌}
use native.Mathlib.Omega.{arith}
use lib.ListN.{length, get_or}
use Rattle.sheet_lines.specs.Bytes.{text_of, every}
use Rattle.parsimony.proofs.Order.{by_lt, by_eq}
use Rattle.sheet_lines.proofs.ByteLaws.{every_on, every_off, every_end}

pub no_test : {A : Type 0} → false ≡ true → A
no_test e = let z : ◌≡◌ {A = ℕ} 0 1 = cc in absurd (omega arith)

module _ (f : ℕ → Bool) (sheet : List ℕ) (end : ℕ) (l : end ≤ length sheet) where
  told_by : (n i : ℕ) → end ≤ i + n → every f (text_of sheet i end) ≡ true
      → (k : ℕ) → i ≤ k → k < end → f (get_or sheet k 0) ≡ true
  told_by zero i room e k low high = absurd (omega arith)
  told_by (suc n) i room e k low high = by_test (told_by n (i + 1) (omega arith)) (f (get_or sheet i 0)) refl
    where
      by_test : (every f (text_of sheet (i + 1) end) ≡ true → (k : ℕ) → i + 1 ≤ k → k < end → f (get_or sheet k 0) ≡ true)
          → (b : Bool) → f (get_or sheet i 0) ≡ b → f (get_or sheet k 0) ≡ true
      by_test rest true t =
          by_eq i k (λ same. subst (λ j. f (get_or sheet j 0) ≡ true) same t)
          (λ other. rest (every_on f sheet i end l (omega arith) t ∙ e) k (omega arith) high)
      by_test rest false t = no_test (every_off f sheet i end l (omega arith) t ∙ e)

  -- it holds of each
  pub every_told : (i : ℕ) → every f (text_of sheet i end) ≡ true → (k : ℕ) → i ≤ k → k < end → f (get_or sheet k 0) ≡ true
  every_told i e k low high = told_by end i (omega arith) e k low high

  found_by : (n i : ℕ) → end ≤ i + n → ((k : ℕ) → i ≤ k → k < end → f (get_or sheet k 0) ≡ true)
      → every f (text_of sheet i end) ≡ true
  found_by zero i room all = sym (every_end f sheet i end l (omega arith))
  found_by (suc n) i room all =
      by_lt i end
      (λ h.
      sym (every_on f sheet i end l h (all i (omega arith) h))
      ∙ found_by n (i + 1) (omega arith) (λ k low high. all k (omega arith) high))
      (λ h. sym (every_end f sheet i end l h))

  -- it holds where it holds of each
  pub every_found : (i : ℕ) → ((k : ℕ) → i ≤ k → k < end → f (get_or sheet k 0) ≡ true)
      → every f (text_of sheet i end) ≡ true
  every_found i all = found_by end i (omega arith) all

  not_by : (n i : ℕ) → end ≤ i + n → every f (text_of sheet i end) ≡ false
      → (k : ℕ) × (i ≤ k) × (k < end) × (f (get_or sheet k 0) ≡ false)
  not_by zero i room e = no_test (sym e ∙ sym (every_end f sheet i end l (omega arith)))
  not_by (suc n) i room e =
      by_lt i end (λ h. by_test h (not_by n (i + 1) (omega arith)) (f (get_or sheet i 0)) refl)
      (λ h. no_test (sym e ∙ sym (every_end f sheet i end l h)))
    where
      by_test : i < end
          → (every f (text_of sheet (i + 1) end) ≡ false
          → (k : ℕ) × (i + 1 ≤ k) × (k < end) × (f (get_or sheet k 0) ≡ false))
          → (b : Bool) → f (get_or sheet i 0) ≡ b → (k : ℕ) × (i ≤ k) × (k < end) × (f (get_or sheet k 0) ≡ false)
      by_test h rest true t =
          let r = rest (every_on f sheet i end l h t ∙ e) in
          (r.0, omega (arith, r.1), r.2, r.3)
      by_test h rest false t = (i, omega arith, h, t)

  -- it does not hold of some byte, where it does not hold
  pub every_not : (i : ℕ) → every f (text_of sheet i end) ≡ false
      → (k : ℕ) × (i ≤ k) × (k < end) × (f (get_or sheet k 0) ≡ false)
  every_not i e = not_by end i (omega arith) e

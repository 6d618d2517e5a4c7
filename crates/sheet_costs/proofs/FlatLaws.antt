-- The costs of a table in one list: where each stands, and that they keep the rules of costs of four states.
-- Assumes nothing.
use mathlib.Core.List.{List, [], ◌∷◌}
use mathlib.Core.Path.{◌≡◌, refl, subst, sym}
use Prim.Native.Nat.{ℕ, zero, suc, ◌+◌, ◌*◌, ◌/◌, ◌%◌, ◌<◌, ◌≤◌}
use native.Mathlib.Omega.{arith}
use lib.ListN.{get_or}
use Rattle.parsimony.specs.Allowed.{CostRules}
use Rattle.sheet_costs.specs.CostRules.{TableRules, Flat}

-- the sixteen costs, row after row
unfoldable pub sixteen : List (List ℕ) → List ℕ
sixteen table =
    get_or (get_or table 0 []) 0 0 ∷ get_or (get_or table 0 []) 1 0 ∷ get_or (get_or table 0 []) 2 0 ∷ get_or (get_or table 0 []) 3 0
    ∷ get_or (get_or table 1 []) 0 0 ∷ get_or (get_or table 1 []) 1 0 ∷ get_or (get_or table 1 []) 2 0 ∷ get_or (get_or table 1 []) 3 0
    ∷ get_or (get_or table 2 []) 0 0 ∷ get_or (get_or table 2 []) 1 0 ∷ get_or (get_or table 2 []) 2 0 ∷ get_or (get_or table 2 []) 3 0
    ∷ get_or (get_or table 3 []) 0 0 ∷ get_or (get_or table 3 []) 1 0 ∷ get_or (get_or table 3 []) 2 0 ∷ get_or (get_or table 3 []) 3 0
    ∷ []

pub flat_list : (table : List (List ℕ)) → Flat table (sixteen table)
unfolding sixteen
flat_list table = record { size = refl; entry = entry }
  where
    entry : (x y : ℕ) → x < 4 → y < 4 → get_or (sixteen table) (x * 4 + y) 0 ≡ get_or (get_or table x []) y 0
    entry zero zero h l = refl
    entry zero (suc zero) h l = refl
    entry zero (suc (suc zero)) h l = refl
    entry zero (suc (suc (suc zero))) h l = refl
    entry zero (suc (suc (suc (suc y)))) h l = absurd (omega arith)
    entry (suc zero) zero h l = refl
    entry (suc zero) (suc zero) h l = refl
    entry (suc zero) (suc (suc zero)) h l = refl
    entry (suc zero) (suc (suc (suc zero))) h l = refl
    entry (suc zero) (suc (suc (suc (suc y)))) h l = absurd (omega arith)
    entry (suc (suc zero)) zero h l = refl
    entry (suc (suc zero)) (suc zero) h l = refl
    entry (suc (suc zero)) (suc (suc zero)) h l = refl
    entry (suc (suc zero)) (suc (suc (suc zero))) h l = refl
    entry (suc (suc zero)) (suc (suc (suc (suc y)))) h l = absurd (omega arith)
    entry (suc (suc (suc zero))) zero h l = refl
    entry (suc (suc (suc zero))) (suc zero) h l = refl
    entry (suc (suc (suc zero))) (suc (suc zero)) h l = refl
    entry (suc (suc (suc zero))) (suc (suc (suc zero))) h l = refl
    entry (suc (suc (suc zero))) (suc (suc (suc (suc y)))) h l = absurd (omega arith)
    entry (suc (suc (suc (suc x)))) y h l = absurd (omega arith)

-- they keep the rules where the table does
pub flat_rules : (table : List (List ℕ)) (flat : List ℕ) → TableRules table → Flat table flat → CostRules 4 flat
flat_rules table flat rules f =
    record {
      fewest = omega arith;
      most = omega arith;
      count = f.size;
      cheap = λ i h.
          let x = i / 4 in
          let y = i % 4 in
          let here : x * 4 + y ≡ i = omega arith in
          let low : x < 4 = omega arith in
          let cost = f.entry x y low (omega arith) in
          let most = (rules.rows x low).cheap y in
          subst (λ k. get_or flat k 0 ≤ 999) here (subst (λ v. v ≤ 999) (sym cost) most);
      stay = λ x h. rw (f.entry x x h h) (rules.rows x h).stay;
    }

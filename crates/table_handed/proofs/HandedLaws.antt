-- How the tests of the entries add up to the rules of handed rows.
-- Assumes nothing.
use mathlib.Core.Bool.{Bool}
use mathlib.Core.List.{List}
use mathlib.Core.Logic.{◌⊎◌}
use mathlib.Core.Path.{◌≡◌}
use Prim.Native.Nat.{ℕ, ◌+◌, ◌*◌, ◌≤◌, ◌<◌}
use native.Mathlib.Nat.{mul-le-mul_right, suc-mul}
use native.Mathlib.Omega.{arith}
use Rattle.std.proofs.Common.{sym, ◌∙◌, suc}
use Rattle.std.specs.List.{slice_range}
use lib.ListN.{length, get_or}
use Rattle.parsimony.specs.Allowed.{HandedRules, most_handed}
use Rattle.parsimony.specs.Barred.{barred}
use Rattle.parsimony.specs.Tells.{Tells}
use Rattle.parsimony.proofs.SliceLaws.{part_length, part_entry}
use Rattle.parsimony.proofs.TellsLaws.{tells_same}

-- where there is an entry for each column, row and state, each in range, the rows decide
pub handed_tell : (s c h : ℕ) (entries : List ℕ) {b : Bool} → length entries ≡ c * h * s
    → ((i : ℕ) → i < length entries → (get_or entries i 0 ≤ most_handed) ⊎ (get_or entries i 0 ≡ barred))
    → Tells ((i : ℕ) → i < c * h → (x : ℕ) × (x < s) × (get_or entries (i * s + x) 0 ≡ barred → ⊥)) b
    → Tells (HandedRules s c h entries) b
handed_tell s c h entries count range =
    tells_same (λ rows. record { count = count; range = λ i l. range i (omega arith); unbarred = rows })
    (λ rules. rules.unbarred)

-- row i of n stands within the entries
row_within : (entries : List ℕ) (i n s : ℕ) → length entries ≡ n * s → i < n → i * s + s ≤ length entries
row_within entries i n s count h =
    let grows : suc i * s ≤ n * s = mul-le-mul_right s h in
    let one = suc-mul i s in
    omega arith

-- what tells of row i as a slice tells of its entries among all
pub row_tells : (entries : List ℕ) (i n s : ℕ) {b : Bool} → length entries ≡ n * s → i < n
    → (let row = slice_range entries (i * s) (i * s + s) in
    Tells ((x : ℕ) × (x < length row) × (get_or row x 0 ≡ barred → ⊥)) b)
    → Tells ((x : ℕ) × (x < s) × (get_or entries (i * s + x) 0 ≡ barred → ⊥)) b
row_tells entries i n s count within =
    let size = part_length entries (i * s) s (row_within entries i n s count within) in
    tells_same
    (λ (x, h, free). let low : x < s = omega arith in
    (x, low, λ bar. free (part_entry entries (i * s) s x low ∙ bar)))
    (λ (x, h, free). (x, omega arith, λ bar. free (sym (part_entry entries (i * s) s x h) ∙ bar)))

-- A bound of powers, and how the tests of the entries add up to the rules of costs and cells.
-- Assumes nothing.
use mathlib.Core.Bool.{Bool}
use mathlib.Core.List.{List}
use mathlib.Core.Path.{◌≡◌}
use Prim.Native.Nat.{ℕ, ◌+◌, ◌*◌, ◌^◌, ◌≤◌, ◌<◌}
use native.Mathlib.Omega.{arith}
use lib.ListN.{length, get_or}
use lib.Pow.{pow_pos}
use Rattle.parsimony.specs.Allowed.{CostRules, CellRules}
use Rattle.parsimony.specs.Limits.{most_states, cell_bits}
use Rattle.parsimony.specs.Tells.{Tells}
use Rattle.parsimony.proofs.StateSetLaws.{states_fit}
use Rattle.parsimony.proofs.TellsLaws.{tells_same}

-- of s states there is at least one set, and each fits a cell
pub pow_within : (s : ℕ) → s ≤ most_states → (1 ≤ 2 ^ s) × (2 ^ s ≤ 2 ^ cell_bits)
pow_within s h = (pow_pos s, states_fit s h)

-- where the costs are s by s, each at most 999, the diagonal decides
pub costs_tell : (s : ℕ) (costs : List ℕ) {b : Bool} → 2 ≤ s → s ≤ most_states → length costs ≡ s * s
    → ((i : ℕ) → i < length costs → (0 ≤ get_or costs i 0) × (get_or costs i 0 ≤ 999))
    → Tells ((x : ℕ) → x < s → get_or costs (x * s + x) 0 ≡ 0) b → Tells (CostRules s costs) b
costs_tell s costs fewest most count within =
    tells_same
    (λ free. record {
      fewest = fewest;
      most = most;
      count = count;
      cheap = λ i h. (within i (omega arith)).1;
      stay = free;
    })
    (λ rules. rules.stay)

-- where there is a cell for each of t rows and c columns, the range of the cells decides
pub cells_tell : (s t c : ℕ) (cells : List ℕ) {last : ℕ} {b : Bool} → c ≤ 65535 → length cells ≡ t * c
    → last + 1 ≡ 2 ^ s
    → Tells ((i : ℕ) → i < length cells → (1 ≤ get_or cells i 0) × (get_or cells i 0 ≤ last)) b
    → Tells (CellRules s t c cells) b
cells_tell s t c cells columns count full =
    tells_same
    (λ within. record {
      columns = columns;
      count = count;
      filled = λ i h. (within i (omega arith)).0;
      bits = λ i h. let w = (within i (omega arith)).1 in omega arith;
    })
    (λ rules i h. (
      rules.filled i (omega arith),
      let w = rules.bits i (omega arith) in omega arith,
    ))

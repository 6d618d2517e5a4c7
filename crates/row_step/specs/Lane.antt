-- The steps on a child's row, as they read it: a cost beside each entry.
-- Assumes nothing.
use Rattle.std.specs.Prelude.{List, ◌≡◌, ℕ, ◌<◌, ◌≤◌, length, get_or}
use Rattle.parsimony.specs.Barred.{barred, plus}
use Rattle.parsimony.specs.Least.{least}

-- n is at most k or barred
abbrev pub Within : ℕ → ℕ → Type 0
Within k n = (n ≡ barred → ⊥) → n ≤ k

-- a child in state y: the cost of the change and the child's entry
abbrev pub lane : (ℕ → ℕ) → (ℕ → ℕ) → ℕ → ℕ
lane cost entry y = plus (cost y) (entry y)

-- each entry of the row is barred or below 2^30, so that no sum wraps
pub record Calm (row : List ℕ) : Type 0 where
  pub calm : (y : ℕ) → y < length row → Within 1073741823 (get_or row y 0)

-- s costs, each at most 999
pub record Cheap (costs : List ℕ) (s : ℕ) : Type 0 where
  pub count : length costs ≡ s
  pub cheap : (y : ℕ) → y < s → get_or costs y 0 ≤ 999

-- an inner node's entry for its state x, from its children's rows a and b of s entries
abbrev pub join : (ℕ → ℕ → ℕ) → ℕ → (ℕ → ℕ) → (ℕ → ℕ) → ℕ → ℕ
join cost s a b x = plus (least (lane (cost x) a) s) (least (lane (cost x) b) s)

-- each entry of the row is f of its place
abbrev pub RowIs : (ℕ → ℕ) → List ℕ → Type 0
RowIs f row = (x : ℕ) → x < length row → get_or row x 0 ≡ f x

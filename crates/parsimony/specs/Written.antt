-- What becomes of a list that is lent: some of its entries are written, and nothing else.
-- Assumes nothing.
use Rattle.std.specs.Prelude.{List, ◌≡◌, ℕ, ◌+◌, ◌<◌, ◌≤◌, length, get_or}

-- entry i of a list; beyond its end 0 stands there
abbrev pub entries : List ℕ → ℕ → ℕ
entries l i = get_or l i 0

-- The entries at the places of which Here holds were written, so that the list is now Right, and nothing else was: it
-- is as long as before, and every other entry is as before.
pub record Written (Here : ℕ → Type 0) (Right : (ℕ → ℕ) → Type 0) (before after : List ℕ) : Type 0 where
  pub right : Right (entries after)
  pub long : length after ≡ length before
  pub kept : (i : ℕ) → (Here i → ⊥) → entries after i ≡ entries before i

-- the first n places
abbrev pub Below : ℕ → ℕ → Type 0
Below n i = i < n

-- n places from a place on
abbrev pub InRun : ℕ → ℕ → ℕ → Type 0
InRun at n i = (at ≤ i) × (i < at + n)

-- each of the first n entries is right for its place
abbrev pub Each : ℕ → (ℕ → ℕ → Type 0) → (ℕ → ℕ) → Type 0
Each n right e = (i : ℕ) → i < n → right i (e i)

-- n entries from a place on are f 0, f 1, ..
abbrev pub Run : ℕ → ℕ → (ℕ → ℕ) → (ℕ → ℕ) → Type 0
Run at n f e = (i : ℕ) → i < n → e (at + i) ≡ f i

-- they were written, and nothing else
abbrev pub Wrote : ℕ → ℕ → (ℕ → ℕ) → List ℕ → List ℕ → Type 0
Wrote at n f = Written (InRun at n) (Run at n f)

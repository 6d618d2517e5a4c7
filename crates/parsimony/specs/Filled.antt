-- Lists filled by a rule.
-- Assumes nothing.
use Rattle.std.specs.Prelude.{List, [], ◌∷◌, ◌++◌, ℕ, zero, suc}

-- the list f 0, f 1, .., f (n - 1)
unfoldable pub list_of : ℕ → (ℕ → ℕ) → List ℕ
list_of zero f = []
list_of (suc n) f = f 0 ∷ list_of n (λ i. f (suc i))

-- the lists f 0, f 1, .., f (n - 1), one after the other
unfoldable pub joined : ℕ → (ℕ → List ℕ) → List ℕ
joined zero f = []
joined (suc n) f = f 0 ++ joined n (λ i. f (suc i))

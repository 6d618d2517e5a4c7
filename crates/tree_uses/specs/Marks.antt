-- Marks: a list of 1,023 entries, one for each node or row that a table may have, that counts its uses.
-- Assumes nothing.
use Rattle.std.specs.Prelude.{Bool, true, false, List, ◌≡◌, ℕ, ◌+◌, ◌<◌, ◌≤◌, length, get_or}

-- entry w of the marks is f w
pub record MarksAre (f : ℕ → ℕ) (marks : List ℕ) : Type 0 where
  pub size : length marks ≡ 1023
  pub entry : (w : ℕ) → w < 1023 → get_or marks w 0 ≡ f w

-- no entry of the marks is above m
pub record Most (m : ℕ) (marks : List ℕ) : Type 0 where
  pub size : length marks ≡ 1023
  pub low : (w : ℕ) → w < 1023 → get_or marks w 0 ≤ m

-- the marks out are the marks with f w more at each entry w
pub record Raised (f : ℕ → ℕ) (marks out : List ℕ) : Type 0 where
  pub size : length out ≡ length marks
  pub more : (w : ℕ) → w < 1023 → get_or out w 0 ≡ get_or marks w 0 + f w

-- yes: P holds, and the marks out are the marks with f w more at each entry w; no: P does not, and nothing is changed
abbrev pub TookBy : Type 0 → (ℕ → ℕ) → List ℕ → List ℕ → Bool → Type 0
TookBy P f marks out true = P × Raised f marks out
TookBy P f marks out false = (P → ⊥) × (out ≡ marks)

-- the answer b to whether P holds, with the marks before and after it
pub record Took (P : Type 0) (f : ℕ → ℕ) (marks out : List ℕ) (b : Bool) : Type 0 where
  pub took : TookBy P f marks out b

-- What a line is, in words: it ends in the byte 10, and its other bytes are 32 to 126.
-- Assumes nothing.
use Rattle.std.specs.Prelude.{List, ◌≡◌, ℕ, ◌<◌, ◌≤◌, length, get_or}

-- the bytes of the sheet from a place on are a line with its end at another
pub record IsLine (sheet : List ℕ) (at end : ℕ) : Type 0 where
  pub from : at ≤ end
  pub inside : end < length sheet
  pub stop : get_or sheet end 0 ≡ 10
  pub plain : (i : ℕ) → at ≤ i → i < end → (32 ≤ get_or sheet i 0) × (get_or sheet i 0 ≤ 126)

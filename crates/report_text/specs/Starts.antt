-- What is written at the start of a list.
-- Assumes nothing.
use Rattle.std.specs.Prelude.{List, ◌++◌, ◌≡◌, ℕ, length, drop}

-- the line starts with the text, so many bytes long, and is as before after it
pub record StartsWith (text before after : List ℕ) (size : ℕ) : Type 0 where
  pub bytes : after ≡ text ++ drop (length text) before
  pub long : size ≡ length text

-- What a name is, in words.
-- Assumes nothing.
use Rattle.std.specs.Prelude.{List, ◌⊎◌, ◌≡◌, ℕ, ◌+◌, ◌-◌, ◌<◌, ◌≤◌, length, get_or}
use Prim.Native.Char.{code}
use Rattle.sheet_lines.specs.IsLine.{IsLine}

-- the byte is from one to another
abbrev pub Between : ℕ → ℕ → ℕ → Type 0
Between least most byte = (least ≤ byte) × (byte ≤ most)

-- the byte is a letter, a digit, `_`, `.` or `-`
abbrev pub NameByte : ℕ → Type 0
NameByte byte =
    Between (code "A") (code "Z") byte
    ⊎ (Between (code "a") (code "z") byte
    ⊎ (Between (code "0") (code "9") byte ⊎ ((byte ≡ code "_") ⊎ ((byte ≡ code ".") ⊎ (byte ≡ code "-")))))

-- the line at a place, with its end at another, is a name: 1 to 32 letters, digits, `_`, `.` and `-`
pub record IsNameLine (sheet : List ℕ) (at end : ℕ) : Type 0 where
  pub line : IsLine sheet at end
  pub size : Between 1 32 (end - at)
  pub letters : (i : ℕ) → at ≤ i → i < end → NameByte (get_or sheet i 0)

-- the lines at two places, with their ends at two others, are the same
pub record SameLine (sheet : List ℕ) (a end b last : ℕ) : Type 0 where
  pub size : end - a ≡ last - b
  pub bytes : (k : ℕ) → k < end - a → get_or sheet (a + k) 0 ≡ get_or sheet (b + k) 0

-- the lines at some places are names, and no two of them are the same
pub record AllNames (sheet places : List ℕ) : Type 0 where
  pub named : (i : ℕ) → i < length places → (end : ℕ) × IsNameLine sheet (get_or places i 0) end
  pub different : (i j : ℕ) → i < j → j < length places → (end last : ℕ) → IsLine sheet (get_or places i 0) end
      → IsLine sheet (get_or places j 0) last → SameLine sheet (get_or places i 0) end (get_or places j 0) last → ⊥

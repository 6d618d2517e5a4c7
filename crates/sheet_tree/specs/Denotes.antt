-- What a text denotes, by the grammar: a tree is a name or `(` tree `,` tree `)`.
-- Assumes nothing.
use Rattle.std.specs.Prelude.{true, List, ◌∷◌, ◌++◌, ◌≡◌, ℕ, ◌+◌, ◌<◌, ◌≤◌, length, get_or, drop}
use Prim.Native.Char.{code}
use Rattle.sheet_lines.specs.Bytes.{text_of, every}
use Rattle.sheet_names.specs.Name.{is_name_byte}
use Rattle.sheet_tips.specs.Vine.{Vine, tip, pair}

-- the line at a place is the text, and the text has only bytes that may stand in a name
pub record NameAt (sheet : List ℕ) (place : ℕ) (text : List ℕ) : Type 0 where
  pub after : List ℕ
  pub line : drop place sheet ≡ text ++ (10 ∷ after)
  pub plain : every is_name_byte text ≡ true

-- the bytes from i up to e are the name of row r, one of t
pub record IsName (sheet names : List ℕ) (t r i e : ℕ) : Type 0 where
  pub row : r < t
  pub some : i < e
  pub inside : e ≤ length sheet
  pub name : NameAt sheet (get_or names r 0) (text_of sheet i e)

-- the bytes from i up to e are a pair, where first and second say what the texts of its trees are: a bracket, the first
-- tree up to k, a comma, the second up to m, and a bracket
pub record IsPair (sheet : List ℕ) (first second : ℕ → ℕ → Type 0) (i e : ℕ) : Type 0 where
  pub k : ℕ
  pub m : ℕ
  pub opened : get_or sheet i 0 ≡ code "("
  pub left : first (i + 1) k
  pub comma : get_or sheet k 0 ≡ code ","
  pub right : second (k + 1) m
  pub closed : get_or sheet m 0 ≡ code ")"
  pub after : e ≡ m + 1

-- the bytes from i up to e denote the tree
abbrev pub Denotes : List ℕ → List ℕ → ℕ → Vine → ℕ → ℕ → Type 0
Denotes sheet names t (tip r) i e = IsName sheet names t r i e
Denotes sheet names t (pair a b) i e = IsPair sheet (Denotes sheet names t a) (Denotes sheet names t b) i e

-- the names of the sheet are different: a text is the line of at most one row
pub record Different (sheet names : List ℕ) (t : ℕ) : Type 0 where
  pub rows : (q r : ℕ) (text : List ℕ) → q < t → r < t → NameAt sheet (get_or names q 0) text
      → NameAt sheet (get_or names r 0) text → q ≡ r

-- A name in the tree line, and the row of the sheet's name that it is.
-- Assumes nothing.
use Rattle.std.specs.Prelude.{Option, Some, None, Bool, false, List, [], ◌∷◌, ℕ, ◌+◌, eqb, get_or, drop, take}
use Rattle.parsimony.specs.Test.{pick}
use Rattle.sheet_lines.specs.Bytes.{text_of}
use Rattle.sheet_lines.specs.Count.{on_place}
use Rattle.sheet_lines.specs.Word.{word_of}
use Rattle.sheet_names.specs.Name.{is_name_byte}

-- the first of some bytes, counted from place i, that may not stand in a name
unfoldable pub token_in : List ℕ → ℕ → ℕ
unfolding pick is_name_byte
token_in [] i = i
token_in (byte ∷ more) i = pick (is_name_byte byte) (token_in more (i + 1)) i

-- the end of the name that starts at a place: all bytes from there on that may stand in one
unfoldable pub token_end : List ℕ → ℕ → ℕ
unfolding token_in
token_end sheet i = token_in (drop i sheet) i

-- the test that the line at a place is the text from i up to e
unfoldable pub is_line_of : List ℕ → ℕ → ℕ → ℕ → Bool
unfolding on_place word_of text_of
is_line_of sheet i e place = on_place (word_of (text_of sheet i e) sheet place) false (λ stop. eqb (get_or sheet stop 0) 10)

-- the row, counted from r, of the first of some places whose line is the text from i up to e
unfoldable pub find_in : List ℕ → ℕ → ℕ → List ℕ → ℕ → Option ℕ
unfolding pick is_line_of
find_in sheet i e [] r = None
find_in sheet i e (place ∷ places) r = pick (is_line_of sheet i e place) (Some r) (find_in sheet i e places (r + 1))

-- the row of the name that stands from i up to e, among the first t names
unfoldable pub row_named : List ℕ → List ℕ → ℕ → ℕ → ℕ → Option ℕ
unfolding find_in
row_named sheet names t i e = find_in sheet i e (take t names) 0

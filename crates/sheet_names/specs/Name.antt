-- A name: 1 to 32 letters, digits, `_`, `.` and `-`.
-- Assumes nothing.
use Rattle.std.specs.Prelude.{Bool, true, false, List, [], ◌∷◌, ℕ, eqb, length, drop}
use Prim.Native.Char.{code}
use Rattle.sheet_lines.specs.Bytes.{within, every}
use Rattle.parsimony.specs.Test.{both, pick}

-- one of two tests holds
unfoldable pub either : Bool → Bool → Bool
either true b = true
either false b = b

-- the test that a byte may stand in a name
unfoldable pub is_name_byte : ℕ → Bool
unfolding either within
is_name_byte byte =
    either (within (code "A") (code "Z") byte)
    (either (within (code "a") (code "z") byte)
    (either (within (code "0") (code "9") byte)
    (either (eqb byte (code "_")) (either (eqb byte (code ".")) (eqb byte (code "-"))))))

-- the test that a text is a name
unfoldable pub is_name : List ℕ → Bool
unfolding both within every is_name_byte
is_name text = both (within 1 32 (length text)) (every is_name_byte text)

-- the test that two lines are the same, up to and with their ends: some bytes from each on
unfoldable pub same_text : List ℕ → List ℕ → Bool
unfolding pick
same_text [] right = false
same_text (a ∷ left) [] = false
same_text (a ∷ left) (b ∷ right) = pick (eqb a b) (pick (eqb a 10) true (same_text left right)) false

-- the test that the line at a place is none of the lines at earlier places
unfoldable pub is_new : List ℕ → List ℕ → ℕ → Bool
unfolding pick same_text
is_new sheet [] at = true
is_new sheet (place ∷ places) at = pick (same_text (drop place sheet) (drop at sheet)) false (is_new sheet places at)

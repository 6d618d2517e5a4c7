-- The code list: the symbols that a cell may have, by the IUPAC-IUB nucleotide code, and the bases of each.
-- Assumes nothing.
use Rattle.std.specs.Prelude.{List, [], ◌∷◌, ℕ, ◌+◌, eqb}
use Prim.Native.Char.{Char, code}
use Prim.Native.String as Text
use Prim.Native.String.{String}
use Rattle.parsimony.specs.Test.{pick}

infix 20 ◌is◌
-- a symbol, and the bases that it stands for
pub data Code : Type 0 where
  ◌is◌ : Char → String → Code

-- the code list, whole: a byte that is not here is no symbol
unfoldable pub codes : List Code
codes =
    ("A" is "A")
    ∷ ("C" is "C")
    ∷ ("G" is "G")
    ∷ ("T" is "T")
    ∷ ("U" is "T")
    ∷ ("R" is "AG")
    ∷ ("Y" is "CT")
    ∷ ("S" is "CG")
    ∷ ("W" is "AT")
    ∷ ("K" is "GT")
    ∷ ("M" is "AC")
    ∷ ("B" is "CGT")
    ∷ ("D" is "AGT")
    ∷ ("H" is "ACT")
    ∷ ("V" is "ACG")
    ∷ ("N" is "ACGT")
    ∷ ("?" is "ACGT")
    ∷ ("-" is "ACGT")
    ∷ []

-- the set of one base: bit 0 for A, 1 for C, 2 for G, 3 for T
unfoldable pub base_of : Char → ℕ
unfolding pick
base_of b =
    pick (eqb (code b) (code "A")) 1
    (pick (eqb (code b) (code "C")) 2 (pick (eqb (code b) (code "G")) 4 (pick (eqb (code b) (code "T")) 8 0)))

-- the set of different bases
unfoldable pub bases_of : String → ℕ
unfolding base_of
bases_of Text.[] = 0
bases_of (Text.◌∷◌ b s) = base_of b + bases_of s

-- what the byte stands for in a code list: the set of its bases, or the empty set where the byte is not listed
unfoldable pub look_up : List Code → ℕ → ℕ
unfolding bases_of pick
look_up [] byte = 0
look_up ((symbol is bases) ∷ more) byte = pick (eqb (code symbol) byte) (bases_of bases) (look_up more byte)

-- the set of states that the byte stands for in the code list, or the empty set where the byte is not listed
unfoldable pub symbol_set : ℕ → ℕ
unfolding codes look_up
symbol_set byte = look_up codes byte

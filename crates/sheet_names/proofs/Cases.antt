-- Sections of names, sound and refused, by computation.
-- Assumes nothing.
use mathlib.Core.List.{[], ◌∷◌}
use mathlib.Core.Path.{◌≡◌, refl}
use Rattle.std.proofs.Common.{Ok, Err}
use Rattle.sheet_lines.specs.Bytes.{bytes}
use Rattle.sheet_lines.specs.declared.Fault.TheVariants.{Sheet}
use Rattle.sheet_names.specs.Names.{names_of}

-- three names, with their places
pub names_three : names_of (bytes "names 3\na\nb\nc\n") 0 1 ≡ record { items = 8 ∷ 10 ∷ 12 ∷ []; count = Ok (3, 14) }
unfolding names_of
names_three = refl

-- names differ by case, and `names`, `tree` and `0` may be names
pub names_words : (names_of (bytes "names 5\na\nA\nnames\ntree\n0\n") 0 1).count ≡ Ok (5, 25)
unfolding names_of
names_words = refl

-- a name that begins another is another
pub names_longer : (names_of (bytes "names 3\nab\na\nabc\n") 0 1).count ≡ Ok (3, 17)
unfolding names_of
names_longer = refl

-- of two equal names the later carries the line
pub names_equal : names_of (bytes "names 3\nab\nc\nab\n") 0 1
    ≡ record { items = 8 ∷ 11 ∷ []; count = Err (Sheet 4) }
unfolding names_of
names_equal = refl

-- a count above the names: the next line is no name
pub names_more : (names_of (bytes "names 4\na\nb\nc\ncolumns 2\n") 0 1).count ≡ Err (Sheet 5)
unfolding names_of
names_more = refl

-- an empty name; a name of 33 bytes, and of 32; a name with a bracket; a space; a byte 13; an open last line; no line
pub names_empty : (names_of (bytes "names 2\na\n\n") 0 1).count ≡ Err (Sheet 3)
unfolding names_of
names_empty = refl

pub names_33 : (names_of (bytes "names 1\nabcdefghijklmnopqrstuvwxyz0123456\n") 0 1).count ≡ Err (Sheet 2)
unfolding names_of
names_33 = refl

pub names_32 : (names_of (bytes "names 1\nabcdefghijklmnopqrstuvwxyz01._-5\n") 0 1).count ≡ Ok (1, 41)
unfolding names_of
names_32 = refl

pub names_bracket : (names_of (bytes "names 1\na(b\n") 0 1).count ≡ Err (Sheet 2)
unfolding names_of
names_bracket = refl

pub names_space : (names_of (bytes "names 1\na \n") 0 1).count ≡ Err (Sheet 2)
unfolding names_of
names_space = refl

pub names_return : (names_of (bytes "names 1\r\na\r\n") 0 1).count ≡ Err (Sheet 1)
unfolding names_of
names_return = refl

pub names_open : (names_of (bytes "names 2\na\nb") 0 1).count ≡ Err (Sheet 3)
unfolding names_of
names_open = refl

pub names_none : (names_of (bytes "names 2\na\n") 0 1).count ≡ Err (Sheet 3)
unfolding names_of
names_none = refl

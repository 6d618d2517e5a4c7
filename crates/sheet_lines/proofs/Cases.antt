-- Lines, numbers and count lines, sound and refused, by computation.
-- Assumes nothing.
use mathlib.Core.Path.{◌≡◌, refl}
use Rattle.std.proofs.Common.{Some, None, Ok, Err}
use Rattle.sheet_lines.specs.Bytes.{bytes}
use Rattle.sheet_lines.specs.Count.{count_of}
use Rattle.sheet_lines.specs.Line.{line_end}
use Rattle.sheet_lines.specs.Number.{number_at}
use Rattle.sheet_lines.specs.declared.Fault.TheVariants.{Sheet}

-- a line ends at its byte 10, an empty one at once
pub line_ends : line_end (bytes "ab\nc\n") 0 ≡ Some 2
unfolding line_end bytes
line_ends = refl

pub line_empty : line_end (bytes "ab\n\n") 3 ≡ Some 3
unfolding line_end bytes
line_empty = refl

-- a line without its end, with a tab, with a carriage return, or with the byte 127 is no line
pub line_open : line_end (bytes "ab\nc") 3 ≡ None
unfolding line_end bytes
line_open = refl

pub line_tab : line_end (bytes "a\tb\n") 0 ≡ None
unfolding line_end bytes
line_tab = refl

pub line_return : line_end (bytes "ab\r\n") 0 ≡ None
unfolding line_end bytes
line_return = refl

pub line_delete : line_end (bytes "a\u{7f}\n") 0 ≡ None
unfolding line_end bytes
line_delete = refl

-- past the end there is no line
pub line_beyond_the_end : line_end (bytes "ab\n") 7 ≡ None
unfolding line_end bytes
line_beyond_the_end = refl

-- a number goes up to the first byte that is no digit
pub number_512 : number_at 512 (bytes "x512\n") 1 ≡ Some (512, 4)
unfolding number_at bytes
number_512 = refl

-- after a zero the number is over: what follows is no part of it
pub number_leading_zero : number_at 512 (bytes "07\n") 0 ≡ Some (0, 1)
unfolding number_at bytes
number_leading_zero = refl

-- a number above its limit is none, however many digits it has
pub number_513 : number_at 512 (bytes "513\n") 0 ≡ None
unfolding number_at bytes
number_513 = refl

pub number_many : number_at 512 (bytes "18446744073709551617\n") 0 ≡ None
unfolding number_at bytes
number_many = refl

-- a count line, on line 1 of a sheet
pub count_three : count_of (bytes "names ") 1 512 (bytes "names 3\na\n") 0 1 ≡ Ok (3, 8)
unfolding count_of bytes
count_three = refl

-- refused: a leading zero, two zeros, a space too many, text after the digits, no digits, another word, a count below
-- the least or above the most, no line end, nothing at all
pub count_leading_zero : count_of (bytes "names ") 1 512 (bytes "names 03\n") 0 1 ≡ Err (Sheet 1)
unfolding count_of bytes
count_leading_zero = refl

pub count_two_zeros : count_of (bytes "columns ") 0 65535 (bytes "columns 00\n") 0 4 ≡ Err (Sheet 4)
unfolding count_of bytes
count_two_zeros = refl

pub count_two_spaces : count_of (bytes "names ") 1 512 (bytes "names  3\n") 0 1 ≡ Err (Sheet 1)
unfolding count_of bytes
count_two_spaces = refl

pub count_text_after : count_of (bytes "names ") 1 512 (bytes "names 3 \n") 0 1 ≡ Err (Sheet 1)
unfolding count_of bytes
count_text_after = refl

pub count_no_digits : count_of (bytes "names ") 1 512 (bytes "names \n") 0 1 ≡ Err (Sheet 1)
unfolding count_of bytes
count_no_digits = refl

pub count_other_word : count_of (bytes "names ") 1 512 (bytes "Names 3\n") 0 1 ≡ Err (Sheet 1)
unfolding count_of bytes
count_other_word = refl

pub count_below : count_of (bytes "names ") 1 512 (bytes "names 0\n") 0 1 ≡ Err (Sheet 1)
unfolding count_of bytes
count_below = refl

pub count_above : count_of (bytes "names ") 1 512 (bytes "names 513\n") 0 1 ≡ Err (Sheet 1)
unfolding count_of bytes
count_above = refl

pub count_open : count_of (bytes "names ") 1 512 (bytes "names 3") 0 1 ≡ Err (Sheet 1)
unfolding count_of bytes
count_open = refl

pub count_return : count_of (bytes "names ") 1 512 (bytes "names 3\r\n") 0 1 ≡ Err (Sheet 1)
unfolding count_of bytes
count_return = refl

pub count_nothing : count_of (bytes "names ") 1 512 (bytes "") 0 1 ≡ Err (Sheet 1)
unfolding count_of bytes
count_nothing = refl

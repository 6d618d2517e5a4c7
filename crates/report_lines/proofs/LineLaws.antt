-- How long the lines and their parts are.
-- Assumes nothing.
use Rattle.std.proofs.Common.{◌≡◌, ℕ, ◌+◌, ◌^◌, ◌<◌, ◌≤◌, List, [], ◌∷◌, ◌++◌, length, refl, ap, arith, length-append}
use Rattle.sheet_lines.specs.Bytes.{bytes}
use Rattle.report_text.specs.Decimal.{decimal}
use Rattle.report_text.proofs.NumberSteps.{number_fits}
use Rattle.report_lines.specs.Frame.{word_line, number_line, refused_line}
use Rattle.report_lines.specs.Line.{field, line_text}

-- a field is its number and one byte
pub field_length : (n : ℕ) → length (field n) ≡ length (decimal n) + 1
unfolding field
field_length n = length-append (decimal n) (32 ∷ [])

-- a line is its five parts
pub line_length : (number score quiet ones : ℕ) (labels : List ℕ)
    → length (line_text number score quiet ones labels)
    ≡ length (field number) + length (field score) + length (field quiet) + length (field ones) + length labels
unfolding line_text
line_length number score quiet ones labels =
    let two = length-append (field number) (field score) in
    let three = length-append (field number ++ field score) (field quiet) in
    let four = length-append (field number ++ field score ++ field quiet) (field ones) in
    let five = length-append (field number ++ field score ++ field quiet ++ field ones) labels in
    omega arith

-- a word and a number are as long as both
pub word_length : (word : List ℕ) (n : ℕ) → length (word_line word n) ≡ length word + length (decimal n)
unfolding word_line
word_length word n = length-append word (decimal n)

-- and so at most twenty bytes longer than the word
pub word_most : (word : List ℕ) (n : ℕ) → n < 2 ^ 64 → length (word_line word n) ≤ length word + 20
word_most word n small = let long = word_length word n in let digits = number_fits n small in omega arith

-- the line of a refused sheet, its word byte by byte
pub refused_bytes : (number place : ℕ) → refused_line number place
    ≡ word_line (114 ∷ 101 ∷ 102 ∷ 117 ∷ 115 ∷ 101 ∷ 100 ∷ 32 ∷ []) number ++ (32 ∷ []) ++ decimal place ++ (10 ∷ [])
unfolding refused_line bytes
refused_bytes number place = refl

-- the line of a word and a number has one byte more
pub number_line_length : (word : List ℕ) (n : ℕ) → length (number_line word n) ≡ length (word_line word n) + 1
unfolding number_line
number_line_length word n = length-append (word_line word n) (10 ∷ [])

pub number_line_most : (word : List ℕ) (n : ℕ) → n < 2 ^ 64 → length (number_line word n) ≤ length word + 21
number_line_most word n small =
    let long = number_line_length word n in let most = word_most word n small in omega arith

-- the line of a refused sheet has two numbers and ten bytes more
pub refused_length : (number place : ℕ) → length (refused_line number place)
    ≡ length (word_line (114 ∷ 101 ∷ 102 ∷ 117 ∷ 115 ∷ 101 ∷ 100 ∷ 32 ∷ []) number) + 1 + length (decimal place) + 1
refused_length number place =
    let word = word_line (114 ∷ 101 ∷ 102 ∷ 117 ∷ 115 ∷ 101 ∷ 100 ∷ 32 ∷ []) number in
    let is = ap length (refused_bytes number place) in
    let one = length-append (word ++ (32 ∷ []) ++ decimal place) (10 ∷ []) in
    let two = length-append (word ++ (32 ∷ [])) (decimal place) in
    let three = length-append word (32 ∷ []) in
    omega arith

pub refused_most : (number place : ℕ) → number < 2 ^ 64 → place < 2 ^ 64 → length (refused_line number place) ≤ 64
refused_most number place small low =
    let long = refused_length number place in
    let word = word_most (114 ∷ 101 ∷ 102 ∷ 117 ∷ 115 ∷ 101 ∷ 100 ∷ 32 ∷ []) number small in
    let digits = number_fits place low in
    omega arith

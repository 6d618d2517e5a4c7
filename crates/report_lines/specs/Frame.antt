-- The report's other lines, each with its line end: the number of columns, the total, and the one line of a refused
-- sheet.
-- Assumes nothing.
use Rattle.std.specs.Prelude.{List, [], ◌∷◌, ◌++◌, ℕ}
use Rattle.sheet_lines.specs.Bytes.{bytes}
use Rattle.report_text.specs.Decimal.{decimal}

-- a word, its space with it, and a number
unfoldable pub word_line : List ℕ → ℕ → List ℕ
unfolding decimal
word_line word n = word ++ decimal n

-- a line of a word and a number
unfoldable pub number_line : List ℕ → ℕ → List ℕ
unfolding word_line
number_line word n = word_line word n ++ (10 ∷ [])

-- the first line: the number of columns
unfoldable pub columns_line : ℕ → List ℕ
unfolding number_line bytes
columns_line c = number_line (bytes "columns ") c

-- the last line: the total
unfoldable pub total_line : ℕ → List ℕ
unfolding number_line bytes
total_line total = number_line (bytes "total ") total

-- the line of a refused sheet: the number of the refusal and the line of the sheet
unfoldable pub refused_line : ℕ → ℕ → List ℕ
unfolding word_line bytes
refused_line number place = word_line (bytes "refused ") number ++ (32 ∷ []) ++ decimal place ++ (10 ∷ [])

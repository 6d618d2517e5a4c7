-- The report of the paper, and a column that is not quiet, by computation.
-- Assumes nothing.
use mathlib.Core.List.{List, [], ◌∷◌}
use mathlib.Core.Path.{◌≡◌, refl}
use Prim.Native.Nat.{ℕ}
use Rattle.promises.specs.Input.{Input, input}
use Rattle.sheet_lines.specs.Bytes.{bytes}
use Rattle.report_lines.specs.Frame.{columns_line, total_line, refused_line}
use Rattle.report_lines.specs.Line.{column_line}

-- unit costs of four states
abbrev unit : List ℕ
unit = 0 ∷ 1 ∷ 1 ∷ 1 ∷ 1 ∷ 0 ∷ 1 ∷ 1 ∷ 1 ∷ 1 ∷ 0 ∷ 1 ∷ 1 ∷ 1 ∷ 1 ∷ 0 ∷ []

-- the tree ((a,b),c); with these three cells
abbrev three : List ℕ → Input
three cells = input (65535 ∷ 65535 ∷ 0 ∷ 65535 ∷ 2 ∷ []) (0 ∷ 1 ∷ 1 ∷ 2 ∷ 3 ∷ []) 4 unit 1 cells []

-- A, A, G
pub report_0 : column_line (three (1 ∷ 1 ∷ 4 ∷ [])) 0 ≡ bytes "0 1 1 4 AAAGA"
unfolding column_line bytes
report_0 = refl

-- C, T, T
pub report_1 : column_line (three (2 ∷ 8 ∷ 8 ∷ [])) 1 ≡ bytes "1 1 1 5 CTTTT"
unfolding column_line bytes
report_1 = refl

-- ((a,b),(c,d)); with A, A, G, G: two bases occur at two tips each
pub report_loud : column_line (input (65535 ∷ 65535 ∷ 0 ∷ 65535 ∷ 65535 ∷ 3 ∷ 2 ∷ []) (0 ∷ 1 ∷ 1 ∷ 2 ∷ 3 ∷ 4 ∷ 5 ∷ []) 4
    unit
    1 (1 ∷ 1 ∷ 4 ∷ 4 ∷ []) []) 12 ≡ bytes "12 1 0 6 AAAGGGA"
unfolding column_line bytes
report_loud = refl

pub columns_2 : columns_line 2 ≡ bytes "columns 2\n"
unfolding columns_line bytes
columns_2 = refl

pub total_2 : total_line 2 ≡ bytes "total 2\n"
unfolding total_line bytes
total_2 = refl

pub refused_10_7 : refused_line 10 7 ≡ bytes "refused 10 7\n"
unfolding refused_line bytes
refused_10_7 = refl

-- The faults of a sheet as the paper numbers them, each with the line that it carries.
-- Assumes nothing.
use Rattle.std.specs.Prelude.{ℕ}
use Rattle.sheet_lines.specs.declared.Fault.{Fault}
use Rattle.sheet_lines.specs.declared.Fault.TheVariants.{Sheet, Symbol, TreeText}

-- 9 SHEET, 10 SYMBOL, 11 TREE TEXT
abbrev pub fault_number : Fault → ℕ
fault_number (Sheet line) = 9
fault_number (Symbol line) = 10
fault_number (TreeText line) = 11

-- the line that the fault carries
abbrev pub fault_line : Fault → ℕ
fault_line (Sheet line) = line
fault_line (Symbol line) = line
fault_line (TreeText line) = line

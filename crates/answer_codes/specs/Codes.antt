-- The number that a call returns for its answer, and the start that a number stands for.
-- Assumes nothing.
use Rattle.std.specs.Prelude.{ℕ, ◌+◌, ◌*◌, eqb}
use Rattle.parsimony.specs.Test.{pick}
use Rattle.promises.specs.Answers.{number_of, carried_by}
use Rattle.promises.specs.Answers.{Answer}
use Rattle.promises.specs.Input.{Start}
use Rattle.std.specs.Prelude.{None, Some}
use Rattle.sheet_lines.specs.Fault.{fault_number, fault_line}
use Rattle.sheet_lines.specs.declared.Fault.{Fault}

-- a number of the paper's list and what it carries, as one: the low 8 bits the number, above them what is carried
abbrev pub packed : ℕ → ℕ → ℕ
packed number carried = number + 256 * carried

-- a table call's answer: above the number SHAPE's node
abbrev pub answer_code : Answer → ℕ
answer_code a = packed (number_of a) (carried_by a)

-- a sheet's fault: above the number its line
abbrev pub fault_code : Fault → ℕ
fault_code f = packed (fault_number f) (fault_line f)

-- no start is 18,446,744,073,709,551,615; any other number is the start
unfoldable pub start_of : ℕ → Start
unfolding pick
start_of x = pick (eqb x 18446744073709551615) None (Some x)

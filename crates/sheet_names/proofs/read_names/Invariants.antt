-- `read_names` meets its contract. The invariant: i names are read, and their places stand in the list.
-- Assumes nothing.
use Prim.Native.Nat.{◌+◌}
use Rattle.sheet_lines.proofs.Filling.{Going}
use Rattle.sheet_names.specs.Names.{name_of}
use Rattle.sheet_names.proofs.read_names.Given as goal

abbrev pub invariant-loop-i : goal.invariant-loop-i
invariant-loop-i l = Going (name_of l.sheet) l.t l.at l.line l.initial.names l.i l.place (l.line + l.i) l.names

-- `same_text` meets its contract. The invariant: the bytes that are left decide.
-- Assumes nothing.
use mathlib.Core.Path.{◌≡◌}
use Rattle.std.specs.Iterator.Adapters.{zip_first, zip_second}
use Rattle.std.specs.Slice.Iter.{iter_rest}
use Rattle.sheet_names.specs.Name.{same_text}
use Rattle.sheet_names.proofs.same_text.Given as goal

abbrev pub invariant-loop-a : goal.invariant-loop-a
invariant-loop-a l =
    same_text (iter_rest (zip_first l.a-iterator)) (iter_rest (zip_second l.a-iterator)) ≡ same_text l.one l.other

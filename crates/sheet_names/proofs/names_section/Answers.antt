-- `names_section` meets its contract: the count line, and then as many names.
-- Assumes nothing.
use mathlib.Core.Path.{refl, sym}
use native.Mathlib.Omega.{arith}
use Rattle.std.proofs.Common.{rules}
use Rattle.sheet_lines.proofs.CountLaws.{count_read}
use Rattle.sheet_lines.proofs.CountingLaws.{counting_none, counting_some}
use Rattle.sheet_lines.specs.Counting.{with_count}
use Rattle.sheet_names.specs.Names.{names_of}
use Rattle.sheet_names.proofs.names_section.Goals as goal

pub returns-in_err-t : goal.returns-in_err-t
unfolding names_of
returns-in_err-t c = counting_none _ _ _ _ (sym c.in_err-t.ensures) (search rules)

pub read_names-requires : goal.read_names-requires
read_names-requires c =
    let read = count_read _ _ _ _ _ _ _ _ (sym c.in_ok-t.ensures) in
    (read.small, omega (arith, read.small, c.requires.0), omega (arith, c.requires.1))

pub returns-in_err-end : goal.returns-in_err-end
unfolding names_of with_count
returns-in_err-end c = counting_some _ _ _ _ _ _ _ _ (sym c.in_ok-t.ensures) c.in_err-end.ensures (search rules)

pub returns : goal.returns
unfolding names_of with_count
returns c = counting_some _ _ _ _ _ _ _ _ (sym c.in_ok-t.ensures) c.in_ok-end.ensures refl

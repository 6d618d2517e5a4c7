-- `costs_section` meets its contract: the count line, and then the table of the count.
-- Assumes nothing.
use mathlib.Core.Path.{refl, sym}
use Rattle.std.proofs.Common.{rules}
use Rattle.sheet_lines.proofs.CountingLaws.{counting_none, counting_some}
use Rattle.sheet_lines.specs.Counting.{with_count}
use Rattle.sheet_costs.specs.Costs.{costs_of}
use Rattle.sheet_costs.proofs.costs_section.Goals as goal

pub returns-in_err-k : goal.returns-in_err-k
unfolding costs_of
returns-in_err-k c = counting_none _ _ _ _ (sym c.in_err-k.ensures) (search rules)

pub returns-in_err-end : goal.returns-in_err-end
unfolding costs_of with_count
returns-in_err-end c = counting_some _ _ _ _ _ _ _ _ (sym c.in_ok-k.ensures) c.in_err-end.ensures (search rules)

pub returns : goal.returns
unfolding costs_of with_count
returns c = counting_some _ _ _ _ _ _ _ _ (sym c.in_ok-k.ensures) c.in_ok-end.ensures refl

-- `read_from_costs` meets its contract: the costs, and then the count of trees.
-- Assumes nothing.
use mathlib.Core.Path.{sym}
use native.Mathlib.Omega.{arith}
use Rattle.std.proofs.Common.{rules}
use Rattle.sheet_lines.specs.Bytes.{bytes}
use Rattle.sheet_costs.proofs.CostLaws.{costs_few}
use Rattle.sheet_sections.proofs.SheetSteps.{rest_no_costs, rest_no_tree, rest_whole}
use Rattle.sheet_sections.proofs.read_from_costs.Goals as goal

pub overflow_add-t-5 : goal.overflow_add-t-5
overflow_add-t-5 c = omega (arith, costs_few _ _ _ c.costs_section.ensures c.in_ok-k.was)

pub overflow_add-result-3 : goal.overflow_add-result-3
overflow_add-result-3 c = omega (arith, costs_few _ _ _ c.costs_section.ensures c.in_ok-k.was)

pub returns-in_err-k : goal.returns-in_err-k
returns-in_err-k c = rest_no_costs _ _ _ _ _ _ _ _ c.costs_section.ensures _ c.in_err-k.was (search rules)

pub returns-in_err-tree : goal.returns-in_err-tree
unfolding bytes
returns-in_err-tree c =
    rest_no_tree _ _ _ _ _ _ _ _ c.costs_section.ensures _ _ c.in_ok-k.was _ (sym c.in_err-tree.ensures) (search rules)

pub returns : goal.returns
unfolding bytes
returns c = rest_whole _ _ _ _ _ _ _ _ c.costs_section.ensures _ _ c.in_ok-k.was _ _ (sym c.in_ok-tree.ensures)

-- `row` of a cost table meets its contract: row x stands within it.
-- Assumes nothing.
use Rattle.std.proofs.Common.{◌+◌, ◌*◌, ◌≤◌, length, rules, subst, sym, arith}
use Rattle.parsimony.specs.Column.{cost_at}
use Rattle.parsimony.proofs.ColumnLaws.{place}
use Rattle.parsimony.proofs.SliceLaws.{part_length, part_entry, row_inside}
use Rattle.row_step.proofs.costs.Costs.row.Goals as goal

pub slice_bounds-result-end : goal.slice_bounds-result-end
slice_bounds-result-end c =
    let costs = c.args.self.now in
    let at = row_inside c.args.x _ costs.s c.requires in
    let there : c.args.x * costs.s + costs.s ≤ length costs.list.now = omega (arith, costs.count) in
    search rules

pub returns-clause-cheap : goal.returns-clause-cheap
returns-clause-cheap c =
    let costs = c.args.self.now in
    let at = row_inside c.args.x _ costs.s c.requires in
    record {
      count = part_length _ _ _ (omega (arith, costs.count));
      cheap = λ y h. subst (λ k. k ≤ 999) (sym (part_entry _ _ _ y h)) (costs.cheap _ (place _ y _ _ c.requires h));
    }

pub returns-clause-row : goal.returns-clause-row
unfolding cost_at
returns-clause-row c =
    let costs = c.args.self.now in
    let at = row_inside c.args.x _ costs.s c.requires in
    let size = part_length costs.list.now (c.args.x * costs.s) costs.s (omega (arith, costs.count)) in
    λ y h. part_entry _ _ _ y (omega arith)

-- `least_entry` meets its contract: the entry at the lowest least state is the least.
-- Assumes nothing.
use Rattle.std.proofs.Common.{length, ap, sym, ◌∙◌, arith}
use Rattle.parsimony.specs.Written.{entries}
use Rattle.parsimony.proofs.LeastLaws.{low_within, least_low}
use Rattle.choice_steps.proofs.least_entry.Goals as goal

pub offset_bounds-row-lowest_least : goal.offset_bounds-row-lowest_least
offset_bounds-row-lowest_least c =
    let there = low_within (entries c.args.row.now) (length c.args.row.now) c.requires in
    omega (arith, c.well_formed, c.lowest_least.ensures)

pub bounds-row-lowest_least : goal.bounds-row-lowest_least
bounds-row-lowest_least c =
    let there = low_within (entries c.args.row.now) (length c.args.row.now) c.requires in
    omega (arith, c.lowest_least.ensures)

pub returns : goal.returns
returns c =
    ap (entries c.args.row.now) c.lowest_least.ensures ∙ sym (least_low (entries c.args.row.now) (length c.args.row.now))

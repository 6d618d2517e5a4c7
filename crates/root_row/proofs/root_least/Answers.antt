-- `root_least` meets its contract: the root's row is its entries among the rows.
-- Assumes nothing.
use Rattle.std.proofs.Common.{◌-◌, ap, ◌∙◌, arith}
use Rattle.parsimony.specs.Least.{least}
use Rattle.parsimony.specs.Written.{entries}
use Rattle.parsimony.proofs.LeastLaws.{least_same}
use Rattle.parsimony.proofs.SliceLaws.{row_inside}
use Rattle.root_row.proofs.root_least.Goals as goal

pub row_at-requires : goal.row_at-requires
row_at-requires c =
    let last = row_inside (c.args.n - 1) c.args.n c.args.s (omega (arith, c.requires.some.0)) in
    omega (arith, c.requires.room)

pub returns : goal.returns
returns c =
    c.least_entry.ensures
    ∙ ap (least (entries c.row_at.result.now)) c.row_at.ensures.size
    ∙ least_same _ _ _ c.requires.some.2 (λ y h. c.row_at.ensures.row y (omega (arith, c.row_at.ensures.size)))

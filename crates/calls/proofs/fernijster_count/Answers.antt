-- `fernijster_count` meets its contract: the answer of `count`, packed.
-- Assumes nothing.
use native.Mathlib.Omega.{arith}
use Rattle.calls.proofs.CodeLaws.{counted_small}
use Rattle.calls.proofs.fernijster_count.Goals as goal

pub count_code-requires : goal.count_code-requires
count_code-requires c =
    let small =
    counted_small c.args.left.now c.args.right.now c.args.s c.args.costs.now
    c.args.c c.args.cells.now c.args.column _ _ c.count.result c.count.ensures in
    (omega (arith, small.0), omega (arith, small.1))

-- `free` of states meets its contract: a state is small.
-- Assumes nothing.
use Rattle.std.proofs.Common.{length, arith}
use Rattle.parsimony.specs.Written.{entries}
use Rattle.parsimony.proofs.LeastLaws.{low_within}
use Rattle.walk_down.proofs.marks.U8Mark.free.Goals as goal

pub overflow_cast-result : goal.overflow_cast-result
overflow_cast-result c =
    let state = low_within (entries c.args.row.now) (length c.args.row.now) c.requires.0 in
    omega (arith, c.lowest_least.ensures, c.requires.1)

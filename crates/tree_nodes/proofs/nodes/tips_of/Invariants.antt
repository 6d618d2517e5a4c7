-- `tips_of` meets its contract. The invariant: the two counts are those of the tips among the nodes below v.
-- Assumes nothing.
use Rattle.std.proofs.Common.{◌≡◌}
use Rattle.parsimony.specs.Table as Table
use Rattle.parsimony.specs.Table.{tips}
use Rattle.promises.specs.Input.{input_of, node_in}
use Rattle.tree_nodes.proofs.nodes.tips_of.Given as goal

abbrev pub invariant-loop-v : goal.invariant-loop-v
invariant-loop-v l = (l.symbol ≡ tips Table.symbol (node_in (input_of l.table)) l.v)
    × (l.handed ≡ tips Table.handed (node_in (input_of l.table)) l.v)

-- `add_use` meets its contract: a store at u adds one there, and past the entries nothing is to be added.
-- Assumes nothing.
use Rattle.tree_uses.proofs.MarkLaws.{raised_set, raised_out}
use Rattle.tree_uses.proofs.add_use.Goals as goal

-- u has an entry
pub returns-then-u-lt-MOST_NODES : goal.returns-then-u-lt-MOST_NODES
returns-then-u-lt-MOST_NODES c = raised_set _ _ c.requires.size

-- u has none
pub returns-else-u-lt-MOST_NODES : goal.returns-else-u-lt-MOST_NODES
returns-else-u-lt-MOST_NODES c = raised_out _ _ c.if-u-lt-MOST_NODES.false

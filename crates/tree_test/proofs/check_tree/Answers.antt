-- `check_tree` meets its contract: the walk starts from the counts of all tips and from marks that are all 0,
-- and the uses by the nodes after it are added to its marks before an unused node is looked for.
-- Assumes nothing.
use Rattle.tree_uses.proofs.MarkLaws.{counted_zeros}
use Rattle.tree_test.proofs.FoundLaws.{found_none}
use Rattle.tree_test.proofs.VisitLaws.{marked_none}
use Rattle.tree_test.proofs.check_tree.Goals as goal

pub walk-broken-requires-clause-marked : goal.walk-broken-requires-clause-marked
walk-broken-requires-clause-marked c = marked_none _ _ _ _ counted_zeros counted_zeros counted_zeros

pub returns : goal.returns
returns c =
    record {
      found = record {
        rules = found_none c.requires.most c.note_children.ensures c.walk-broken.ensures.first_not
            c.first_unused-fault.ensures c.if-fault-table.false;
        tips = c.tips_of-tips.ensures;
      };
    }

-- `node_at` meets its contract: the tests are those of the definition, case by case.
-- Assumes nothing.
use Rattle.std.proofs.Common.{refl, ap, sym, ◌∙◌, arith}
use Rattle.parsimony.specs.Table.{symbol, handed, leaf}
use Rattle.parsimony.proofs.NodeLaws.{node_symbol, node_handed, node_inner}
use Rattle.tree_nodes.proofs.nodes.node_at.Goals as goal

-- an inner node
pub returns-then-table-v : goal.returns-then-table-v
returns-then-table-v c = rw (c.from.ensures, c.from-then-table-v.ensures) (sym (node_inner _ _ _ _ _ c.if-table-v.true refl refl))

-- a symbol tip
pub returns-then-table-v-lt-FIRST_HANDED : goal.returns-then-table-v-lt-FIRST_HANDED
returns-then-table-v-lt-FIRST_HANDED c =
    ap (leaf symbol) c.from-then-table-v-lt-FIRST_HANDED.ensures
    ∙ sym (node_symbol _ _ _ _ c.if-table-v-lt-FIRST_HANDED.true c.if-table-v.false refl)

-- a handed tip
pub returns : goal.returns
returns c =
    ap (leaf handed) c.from-2.ensures
    ∙ sym (node_handed _ _ _ _ c.if-table-v.false (omega (arith, c.if-table-v-lt-FIRST_HANDED.false)))

-- `table_tests` meets its contract: an earlier refusal stays, else the handed rows decide.
-- Assumes nothing.
use Rattle.std.proofs.Common.{subst, arith}
use Rattle.parsimony.specs.Table.{handed}
use Rattle.promises.proofs.RuleLaws.{matrix_parts}
use Rattle.promises.specs.Input.{input_of, nodes, node_in}
use Rattle.table_tests.specs.Tested.{MatrixTests}
use Rattle.tree_nodes.proofs.NodeLaws.{tips_most}
use Rattle.table_tests.proofs.table_tests.Goals as goal

pub handed_fit-requires : goal.handed_fit-requires
handed_fit-requires c =
    let I = input_of c.args.table.now in
    let passed = (subst (MatrixTests _) c.in_ok-handed_tips.was c.matrix_tests.ensures.own).tests in
    let matrix = matrix_parts I passed.all in
    let few = tips_most (node_in I) handed (nodes I) in
    (omega (arith, matrix.costs.fewest), matrix.costs.most, matrix.cells.columns, omega (arith, matrix.legal.size.most, passed.tips))

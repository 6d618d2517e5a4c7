-- `matrix_tests` meets its contract: the rules hold one after the other, up to the first that does not.
-- Assumes nothing.
use Rattle.std.proofs.Common.{subst, arith}
use Rattle.parsimony.proofs.TellsLaws.{unless_yes}
use Rattle.parsimony.specs.Table.{symbol}
use Rattle.promises.proofs.RefusalLaws.{shape_refused}
use Rattle.promises.specs.Input.{input_of, nodes, node_in}
use Rattle.tree_nodes.proofs.NodeLaws.{tips_most}
use Rattle.tree_test.specs.Found.{Found}
use Rattle.table_tests.proofs.matrix_tests.Goals as goal

pub cells_fit-requires : goal.cells_fit-requires
cells_fit-requires c =
    let I = input_of c.args.table.now in
    let tree = (subst (Found _ _) c.in-Ok.is c.check_tree.ensures).found in
    let few = tips_most (node_in I) symbol (nodes I) in
    let size = unless_yes c.size_fits.ensures c.if-not-size_fits.false-raw in
    let costs = unless_yes c.costs_fit.ensures c.if-not-costs_fit.false-raw in
    (costs.most, omega (arith, size.most, tree.tips.symbol_tips))

pub returns-in-Err-clause-own : goal.returns-in-Err-clause-own
returns-in-Err-clause-own c =
    let fault = (subst (Found _ _) c.in-Err.is c.check_tree.ensures).found in
    record { tests = shape_refused _ (unless_yes c.size_fits.ensures c.if-not-size_fits.false-raw) _ fault }

pub returns-in-Err-clause-others : goal.returns-in-Err-clause-others
returns-in-Err-clause-others c =
    let fault = (subst (Found _ _) c.in-Err.is c.check_tree.ensures).found in
    λ entries. record {
      tests = shape_refused _ (unless_yes c.size_fits.ensures c.if-not-size_fits.false-raw) _ fault;
    }

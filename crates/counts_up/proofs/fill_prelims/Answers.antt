-- `fill_prelims` meets its contract: each turn counts at one node more.
-- Assumes nothing.
use Rattle.std.proofs.Common.{◌+◌, arith}
use Rattle.promises.specs.Input.{input_of}
use Rattle.counts_up.proofs.CountSteps.{sets_none, sets_more, sets_all, changes_none, changes_more, changes_most, changes_root}
use Rattle.counts_up.proofs.fill_prelims.Goals as goal

pub loop-v-init : goal.loop-v-init
loop-v-init c = (sets_none _ _ _ _ _ _, changes_none _ _ _ _ _)

pub overflow_add-changes : goal.overflow_add-changes
overflow_add-changes c =
    let I = input_of c.args.table.now in
    let turn = c.loop-v in
    let next = changes_more _ _ _ _ _ _ _ _ turn.invariant.1 c.node_count-node.ensures.1 in
    let most = changes_most I.left I.right I.c I.cells c.args.j (turn.v + 1) in
    omega (arith, c.requires.legal.size.most)

pub loop-v-preserved : goal.loop-v-preserved
loop-v-preserved c =
    let turn = c.loop-v in
    let long = turn.invariant.0.long in (
      sets_more _ _ _ _ _ turn.invariant.0 (omega (arith, c.requires.room)) c.node_count-node.ensures.0,
      changes_more _ _ _ _ _ _ _ _ turn.invariant.1 c.node_count-node.ensures.1,
    )

pub returns : goal.returns
returns c =
    record {
      sets = sets_all _ _ _ _ _ c.loop-v.invariant.0 (omega arith);
      count = changes_root _ _ _ _ _ c.requires.legal _ _ c.loop-v.invariant.1 (omega arith);
    }

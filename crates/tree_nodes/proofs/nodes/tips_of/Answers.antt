-- `tips_of` meets its contract: each turn adds what the tests of the node's entries say.
-- Assumes nothing.
use Rattle.std.proofs.Common.{sym, ◌∙◌, arith}
use Rattle.tree_nodes.proofs.NodeLaws.{tips_none, tips_step, tip_entries}
use Rattle.tree_nodes.proofs.nodes.tips_of.Goals as goal

pub loop-v-init : goal.loop-v-init
loop-v-init c = (sym (tips_none _ _), sym (tips_none _ _))

pub overflow_add-symbol : goal.overflow_add-symbol
overflow_add-symbol c =
    let step = tips_step _ _ _ _ _ c.loop-v.invariant.0 (c.from-symbol.ensures ∙ (tip_entries _ _ _).0) in
    omega (arith, c.requires.most)

pub overflow_add-handed : goal.overflow_add-handed
overflow_add-handed c =
    let step = tips_step _ _ _ _ _ c.loop-v.invariant.1 (c.from-handed.ensures ∙ (tip_entries _ _ _).1) in
    omega (arith, c.requires.most)

pub loop-v-preserved : goal.loop-v-preserved
loop-v-preserved c = (
  (tips_step _ _ _ _ _ c.loop-v.invariant.0 (c.from-symbol.ensures ∙ (tip_entries _ _ _).0)).0,
  (tips_step _ _ _ _ _ c.loop-v.invariant.1 (c.from-handed.ensures ∙ (tip_entries _ _ _).1)).0,
)

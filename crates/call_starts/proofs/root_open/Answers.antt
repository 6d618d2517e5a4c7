-- `root_open` meets its contract: a symbol tip bars the states that are not in its cell, a handed tip what its row bars,
-- and an inner root no state.
-- Assumes nothing.
use Rattle.std.proofs.Common.{subst, sym, ◌∙◌}
use Rattle.parsimony.proofs.TellsLaws.{tells_same, differ_tells}
use Rattle.promises.proofs.SoundLaws.{allowed_known}
use Rattle.promises.proofs.TableLaws.{root_symbol, root_handed, root_inner}
use Rattle.parsimony.specs.StateSet.{Member}
use Rattle.parsimony.specs.Tells.{Tells}
use Rattle.column_nodes.specs.Said.{Says}
use Rattle.call_starts.proofs.root_open.Goals as goal

pub returns-in-Symbol : goal.returns-in-Symbol
returns-in-Symbol c =
    let tip = (subst (Says _ _ _) c.in-Symbol.is c.column_node.ensures).said in
    let barred = root_symbol _ (allowed_known _ c.args.sound.now.allowed) _ c.requires.0 tip.r c.args.x tip.node in
    tells_same barred.0 barred.1 (subst (λ w. Tells (Member w c.args.x) c.has.result) tip.cell c.has.ensures)

pub returns-in-Handed : goal.returns-in-Handed
returns-in-Handed c =
    let tip = (subst (Says _ _ _) c.in-Handed.is c.column_node.ensures).said in
    let barred = root_handed _ (allowed_known _ c.args.sound.now.allowed) _ c.requires.0 tip.k c.args.x tip.node in
    let entry = tip.entries c.args.x c.requires.1 in
    tells_same (λ n. barred.0 (λ bar. n (entry ∙ bar))) (λ o bar. barred.1 o (sym entry ∙ bar)) (differ_tells _ _)

pub returns-in-Inner : goal.returns-in-Inner
returns-in-Inner c =
    let node = (subst (Says _ _ _) c.in-Inner.is c.column_node.ensures).said in
    record {
      told = root_inner _ (allowed_known _ c.args.sound.now.allowed) _ c.requires.0 _ _ c.args.x node c.requires.1;
    }

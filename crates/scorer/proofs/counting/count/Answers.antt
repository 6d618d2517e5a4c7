-- `count` meets its contract: a refusal of the tests leaves all as it was, and else the column is counted.
-- Assumes nothing.
use Rattle.std.proofs.Common.{subst}
use Rattle.table_tests.specs.Tested.{Tests}
use Rattle.counts_up.specs.Prelims.{Prelims}
use Rattle.promises.specs.Input.{Input}
use Rattle.scorer.proofs.CountResult.{count_right}
use Rattle.scorer.proofs.counting.count.Goals as goal

pub returns : goal.returns
returns c =
    let passed = (subst (Tests _ _) c.in_ok-sound.was c.count_tests.ensures).tests in
    record {
      answer = record { given = passed.all };
      lists = count_right _ _ _ _ _ _ _ _ passed.all
          (subst (λ (K : Input). Prelims K.left K.right K.c K.cells c.args.j c.args.sets.now c.fill_prelims.new.sets c.fill_prelims.result) passed.same c.fill_prelims.ensures);
    }

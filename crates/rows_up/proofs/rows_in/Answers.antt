-- `rows_in` meets its contract: the rows of a column are calm.
-- Assumes nothing.
use Rattle.promises.proofs.SoundLaws.{allowed_known}
use Rattle.rows_up.proofs.RowSteps.{table_calm}
use Rattle.rows_up.proofs.rows_in.Goals as goal

pub invariant_of-result : goal.invariant_of-result
invariant_of-result c =
    let rules = allowed_known _ c.args.sound.now.allowed in
    record {
      legal = rules.legal;
      costs = rules.costs;
      room = c.requires.room;
      calm = table_calm _ rules c.args.j c.requires.inside c.args.rows.now c.requires.holds_rows;
    }

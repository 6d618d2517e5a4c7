-- `map_bytes` meets its contract.
-- Assumes nothing.
use Rattle.std.proofs.Common.{rules}
use Rattle.report_text.proofs.MappedSteps.{mapped_next, mapped_all}
use Rattle.report_text.proofs.map_bytes.Goals as goal

pub loop-i-init : goal.loop-i-init
loop-i-init g c = (search rules, tt)

pub loop-i-preserved : goal.loop-i-preserved
loop-i-preserved g c =
    (search rules, mapped_next _ _ _ _ _ c.loop-i-test.true (search rules) c.f.ensures c.loop-i.invariant.1)

pub returns : goal.returns
returns g c = mapped_all _ _ _ _ c.loop-i-test.false (search rules) c.loop-i.invariant.1

-- `report` meets its contract: what the reader leaves is a sheet that has been read.
-- Assumes nothing.
use Rattle.report_pages.proofs.ReadLaws.{read_told}
use mathlib.Core.Path.{refl}
use Rattle.report.proofs.report.Goals as goal

pub invariant_of-write_report : goal.invariant_of-write_report
invariant_of-write_report c =
    record {
      read = read_told _ _ _ _ _ _ _ _ c.read_sheet.ensures c.in-Ok.is _ refl refl c.flat_costs-costs.ensures;
    }

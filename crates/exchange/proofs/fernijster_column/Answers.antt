-- `fernijster_column` meets its contract, case by case: the fault of the sheet, no such column, the line.
-- Assumes nothing.
use Rattle.sheet.proofs.FaultLine.{judge_line}
use Rattle.report_pages.proofs.ReadLaws.{read_told, read_fault}
use Rattle.exchange.proofs.EntrySteps.{entry_fault, read_which}
use mathlib.Core.Path.{refl}
use native.Mathlib.Omega.{arith}
use Rattle.exchange.proofs.fernijster_column.Goals as goal

pub fault_code-requires : goal.fault_code-requires
fault_code-requires c =
    let l = judge_line _ _ (read_fault _ _ _ _ _ _ _ _ c.read_sheet.ensures c.in-Err.is) in
    omega arith

pub returns-then-s-column : goal.returns-then-s-column
returns-then-s-column c = read_which _ _ _ _ _ _ _ _ _ _ c.read_sheet.ensures c.in-Ok.is (omega arith)

pub invariant_of-read : goal.invariant_of-read
invariant_of-read c =
    record {
      read = read_told _ _ _ _ _ _ _ _ c.read_sheet.ensures c.in-Ok.is _ refl refl c.flat_costs-costs.ensures;
    }

pub returns-in-Err : goal.returns-in-Err
returns-in-Err c =
    entry_fault _ _ _ _ _ (read_fault _ _ _ _ _ _ _ _ c.read_sheet.ensures c.in-Err.is)
    c.fault_code.ensures

-- `read_sections` meets its contract: the names, and then the rest.
-- Assumes nothing.
use Rattle.std.proofs.Common.{rules}
use Rattle.sheet_names.proofs.NamesLaws.{names_few}
use Rattle.sheet_sections.proofs.SheetSteps.{sheet_no_names, sheet_names}
use Rattle.sheet_sections.proofs.read_sections.Goals as goal

pub read_from_columns-requires : goal.read_from_columns-requires
read_from_columns-requires c = names_few _ _ _ c.names_section.ensures c.in_ok-t.was

pub returns-in_err-t : goal.returns-in_err-t
returns-in_err-t c = sheet_no_names _ _ _ _ _ c.names_section.ensures _ c.in_err-t.was (search rules)

pub returns : goal.returns
returns c = sheet_names _ _ _ _ _ c.names_section.ensures _ _ _ _ c.in_ok-t.was c.read_from_columns.ensures

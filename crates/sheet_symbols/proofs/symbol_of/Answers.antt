-- `symbol_of` meets its contract: the table has the code list's set at each byte.
-- Assumes nothing.
use mathlib.Core.Path.{◌∙◌}
use Rattle.sheet_symbols.proofs.SymbolLaws.{symbol_none, symbol_some}
use Rattle.sheet_symbols.proofs.Table.{table}
use Rattle.sheet_symbols.proofs.TableLaws.{table_at}
use Rattle.sheet_symbols.proofs.symbol_of.Goals as goal

-- the entry is empty
pub returns-then-set-eq0 : goal.returns-then-set-eq0
unfolding table
returns-then-set-eq0 c =
    let entry = table_at c.from.result c.args.byte c.from.ensures c.ranges.byte.fits in
    symbol_none _ (entry ∙ c.if-set-eq0.true)

-- the entry is a set
pub returns-else-set-eq0 : goal.returns-else-set-eq0
unfolding table
returns-else-set-eq0 c =
    let entry = table_at c.from.result c.args.byte c.from.ensures c.ranges.byte.fits in
    symbol_some _ _ entry c.if-set-eq0.false

-- That a sheet has been read can be shown in one way only, as a ghost field asks.
-- Assumes nothing.
use Rattle.std.specs.Prelude.{List, ℕ}
use Rattle.std.proofs.Props.{props}
use Rattle.sheet.specs.Judge.{Judged, sound, faulty}
use Rattle.sheet.specs.declared.Sheet.{Sheet}
use Rattle.report_pages.specs.SheetLine.{ReadAs}

pub read_once : (judged : Judged) (s : Sheet) (costs left right : List ℕ) → IsProp (ReadAs judged s costs left right)
read_once (sound has) s costs left right = Prim.hlevel props
read_once (faulty f) s costs left right = Prim.hlevel props

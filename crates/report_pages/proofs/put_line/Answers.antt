-- `put_line` meets its contract: the line, and then the line end.
-- Assumes nothing.
use Rattle.report_pages.proofs.PageSteps.{line_of, line_end_room}
use Rattle.report_pages.proofs.ReadLaws.{as_printable}
use Rattle.report_pages.proofs.put_line.Goals as goal

pub byte-requires : goal.byte-requires
byte-requires c =
    let ready = as_printable _ _ _ _ _ c.args.s.now.read c.requires.inside in
    line_end_room _ _ _ _ _ _ ready _ _ _ c.sheet_line-score.ensures.printed c.requires.page_room

pub returns : goal.returns
returns c =
    record {
      room = c.sheet_line-score.ensures.room;
      line = line_of c.sheet_line-score.ensures.printed c.byte.ensures;
    }

-- `sheet_line` meets its contract: the cells of the column are put, and the table that is worked is the column's.
-- Assumes nothing.
use Rattle.std.proofs.Common.{rules, sym, subst, arith}
use Rattle.promises.specs.CallRules.{Allowed}
use Rattle.report_pages.proofs.PrintSteps.{
  printable_cells,
  printable_nodes,
  printable_lists,
  put_cells_are,
  printable_table,
  printable_allowed,
  printable_line,
}
use Rattle.report_pages.proofs.ReadLaws.{as_printable}
use Rattle.report_pages.proofs.sheet_line.Goals as goal

pub put_cells-requires : goal.put_cells-requires
put_cells-requires c =
    let ready = as_printable _ _ _ _ _ c.args.s.now.read c.requires.inside in
    let cells = printable_cells _ _ _ _ _ _ ready in
    (cells.0, cells.1, cells.2)

pub slice_bounds-column_line-end : goal.slice_bounds-column_line-end
slice_bounds-column_line-end c =
    let ready = as_printable _ _ _ _ _ c.args.s.now.read c.requires.inside in
    (printable_lists _ _ _ _ _ _ ready).0

pub slice_bounds-column_line-end-2 : goal.slice_bounds-column_line-end-2
slice_bounds-column_line-end-2 c =
    let ready = as_printable _ _ _ _ _ c.args.s.now.read c.requires.inside in
    (printable_lists _ _ _ _ _ _ ready).1

pub shared_ref_as_front-column_line : goal.shared_ref_as_front-column_line
shared_ref_as_front-column_line c =
    let ready = as_printable _ _ _ _ _ c.args.s.now.read c.requires.inside in
    (printable_cells _ _ _ _ _ _ ready).0

pub column_line-requires : goal.column_line-requires
column_line-requires c =
    let ready = as_printable _ _ _ _ _ c.args.s.now.read c.requires.inside in
    let small = printable_nodes _ _ _ _ _ _ ready in
    let long = (printable_lists _ _ _ _ _ _ ready).0 in
    record {
      allowed = subst Allowed
          (sym (printable_table _ _ _ _ _ _ ready _ _ _ (search rules) (search rules)
          (put_cells_are _ _ _ _ _ _ ready _ c.put_cells.ensures.long c.put_cells.ensures)))
          (printable_allowed _ _ _ _ _ _ ready);
      fits_work = record {
        state_room = omega (arith, c.requires.room.states);
        set_room = omega (arith, c.requires.room.sets);
        row_room = omega (arith, c.requires.room.rows);
      };
      number_bound = (small.1, c.requires.line_room);
    }

pub returns : goal.returns
returns c =
    let ready = as_printable _ _ _ _ _ c.args.s.now.read c.requires.inside in
    record {
      room = search rules;
      printed = printable_line _ _ _ _ _ _ ready _
          (printable_table _ _ _ _ _ _ ready _ _ _ (search rules) (search rules)
          (put_cells_are _ _ _ _ _ _ ready _ c.put_cells.ensures.long c.put_cells.ensures))
          _ _ _ _ _ _ _ _ _ c.column_line.ensures;
    }

-- `read_name` meets its contract, in the order of the tests on one line.
-- Assumes nothing.
use mathlib.Core.Path.{sym, ◌∙◌}
use Rattle.sheet_lines.specs.Section.{placed}
use Rattle.sheet_names.proofs.NameSteps.{named_by, new_by, name_none, name_old, name_whole}
use Rattle.sheet_names.proofs.read_name.Goals as goal

pub returns-then-not-is_name : goal.returns-then-not-is_name
unfolding placed
returns-then-not-is_name c =
    let line = sym c.line_end.ensures ∙ c.in_ok-end.ensures.ok_part in
    name_none _ _ _ _ _ line (named_by _ _ _ line c.is_name.ensures c.if-not-is_name.true)

pub returns-then-is_old : goal.returns-then-is_old
unfolding placed
returns-then-is_old c =
    let line = sym c.line_end.ensures ∙ c.in_ok-end.ensures.ok_part in
    name_old _ _ _ _ _ line (named_by _ _ _ line c.is_name.ensures c.if-not-is_name.false)
    (new_by _ _ _ c.is_old.ensures c.if-is_old.true)

pub returns : goal.returns
unfolding placed
returns c =
    let line = sym c.line_end.ensures ∙ c.in_ok-end.ensures.ok_part in
    name_whole _ _ _ _ _ line (named_by _ _ _ line c.is_name.ensures c.if-not-is_name.false)
    (new_by _ _ _ c.is_old.ensures c.if-is_old.false)

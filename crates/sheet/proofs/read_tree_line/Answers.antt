-- `read_tree_line` meets its contract, case by case.
-- Assumes nothing.
use mathlib.Core.Path.{◌≡◌, sym, ◌∙◌}
use native.Mathlib.Omega.{arith}
use Rattle.std.proofs.Common.{Err, rules}
use Rattle.sheet_lines.proofs.LineLaws.{line_inside}
use Rattle.sheet_lines.specs.declared.Fault.TheVariants.{Sheet, TreeText}
use Rattle.sheet.proofs.ReadSteps.{line_tree_lem, line_no_tree, line_of_tips}
use Rattle.sheet.proofs.ReadSteps.{no_line, no_tree_lem, more_after, whole_line}
use Rattle.sheet.proofs.read_tree_line.Goals as goal

pub returns-in_err-end : goal.returns-in_err-end
returns-in_err-end c =
    let e : c.from_residual.result ≡ Err (Sheet c.args.s.line) = search rules in
    rw e (no_line _ _ _ _ _ _ _ (sym c.line_end.ensures ∙ c.in_err-end.ensures.ok_part))

pub returns-in_err-nodes : goal.returns-in_err-nodes
returns-in_err-nodes c =
    let e : c.from_residual-in_err-nodes.result ≡ Err (TreeText c.args.s.line) = search rules in
    rw e
    (no_tree_lem _ _ _ _ _ _ _ _ (sym c.line_end.ensures ∙ c.in_ok-end.ensures.ok_part)
    (line_no_tree (line_of_tips _ _ _ _ c.requires.tips_bound.0 c.tree_line.ensures) c.in_err-nodes.ensures.ok_part))

pub overflow_add-end : goal.overflow_add-end
overflow_add-end c =
    omega (arith, line_inside _ _ _ (sym c.line_end.ensures ∙ c.in_ok-end.ensures.ok_part))

pub returns-then-end-sheet : goal.returns-then-end-sheet
returns-then-end-sheet c =
    more_after _ _ _ _ _ _ _ _ (sym c.line_end.ensures ∙ c.in_ok-end.ensures.ok_part) _ _
    (line_tree_lem _ _ (line_of_tips _ _ _ _ c.requires.tips_bound.0 c.tree_line.ensures) c.in_ok-nodes.ensures.ok_part)
    c.if-end-sheet.true

pub returns : goal.returns
returns c =
    whole_line _ _ _ _ _ _ _ _ (sym c.line_end.ensures ∙ c.in_ok-end.ensures.ok_part) _ _
    (line_tree_lem _ _ (line_of_tips _ _ _ _ c.requires.tips_bound.0 c.tree_line.ensures) c.in_ok-nodes.ensures.ok_part)
    (omega arith)

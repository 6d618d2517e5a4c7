-- `rest_from` meets its contract: past its end the sheet has nothing, as at its end.
-- Assumes nothing.
use Rattle.std.proofs.Common.{drop, ap, ◌∙◌, arith}
use Rattle.std.proofs.Math.Seq.{take_all}
use Rattle.std.proofs.lemmas.List.{drop_min, length-drop}
use Rattle.sheet_lines.proofs.rest_from.Goals as goal

pub returns : goal.returns
returns c =
    let sheet = c.args.sheet.now in
    let long = length-drop c.min.result sheet in
    take_all _ (drop c.min.result sheet) (omega arith)
    ∙ ap (λ k. drop k sheet) c.min.ensures ∙ drop_min c.args.at sheet

-- `put_letters` meets its contract.
-- Assumes nothing.
use Rattle.std.proofs.Common.{rules}
use Rattle.report_marks.proofs.LetterLaws.{letters_mapped}
use Rattle.report_marks.proofs.letters.put_letters.Goals as goal

pub returns : goal.returns
returns c = letters_mapped _ (λ x y is. search rules) _ _ _ c.mapped.ensures

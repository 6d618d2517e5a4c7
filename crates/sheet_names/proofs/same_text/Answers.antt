-- `same_text` meets its contract. The invariant: the bytes that are left decide.
-- Assumes nothing.
use mathlib.Core.Path.{◌∙◌}
use Rattle.std.proofs.lemmas.Slice.Zip.{either_empty_from_Zip}
use Rattle.sheet_names.proofs.NameSteps.{same_on, same_end, same_other, same_over}
use Rattle.sheet_names.proofs.same_text.Goals as goal

pub returns-then-a-b : goal.returns-then-a-b
returns-then-a-b c =
    same_other c.in-Some.ensures.steps.0 c.in-Some.ensures.steps.1 c.if-a-b.true ∙ c.loop-a.invariant

pub returns-then-a-eq-LINE_END : goal.returns-then-a-eq-LINE_END
returns-then-a-eq-LINE_END c =
    same_end c.in-Some.ensures.steps.0 c.in-Some.ensures.steps.1 c.if-a-b.false c.if-a-eq-LINE_END.true
    ∙ c.loop-a.invariant

pub loop-a-preserved : goal.loop-a-preserved
loop-a-preserved c =
    same_on c.in-Some.ensures.steps.0 c.in-Some.ensures.steps.1 c.if-a-b.false c.if-a-eq-LINE_END.false
    ∙ c.loop-a.invariant

pub returns : goal.returns
returns c = same_over _ _
    (either_empty_from_Zip c.loop-a.a-iterator c.next.new.self c.next.result c.in-None.is c.next.ensures.steps)
    ∙ c.loop-a.invariant

-- `join` meets its contract: the two cases are those of the meet of two sets.
-- Assumes nothing.
use Rattle.std.proofs.Common.{ap, sym, ◌∙◌}
use Rattle.std.specs.Int.{from_bool}
use borrow.Author.Tests.{eq-eqb, ne_eqb}
use Rattle.counts_up.proofs.CountSteps.{meet_apart, meet_common}
use Rattle.counts_up.proofs.join.Goals.{then-common-eq0, else-common-eq0}
use Rattle.counts_up.proofs.join.Goals as goal

pub returns : goal.returns
returns c =
    elim c.if-common-eq0.branch [
      | then-common-eq0 w ↦
          let apart = meet_apart _ _ (sym c.common-common.ensures ∙ w.if-common-eq0.true) in (
            w.result-is ∙ c.union-union.ensures ∙ apart.0,
            c.from.ensures ∙ ap from_bool (eq-eqb _ _ w.if-common-eq0.true) ∙ apart.1,
          )
      | else-common-eq0 w ↦
          let shared = meet_common _ _ (λ e. w.if-common-eq0.false (c.common-common.ensures ∙ e)) in (
            w.result-is ∙ c.common-common.ensures ∙ shared.0,
            c.from.ensures ∙ ap from_bool (ne_eqb _ _ w.if-common-eq0.false) ∙ shared.1,
          )
    ]

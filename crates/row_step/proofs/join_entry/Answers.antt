-- `join_entry` meets its contract: both least sums are small enough to be added.
-- Assumes nothing.
use Rattle.std.proofs.Common.{subst, sym, ◌∙◌, arith}
use Rattle.row_step.proofs.LaneLaws.{least_within}
use Rattle.row_step.specs.Lane.{Cheap}
use Rattle.row_step.proofs.join_entry.Goals as goal

pub barred_sum-requires : goal.barred_sum-requires
barred_sum-requires c =
    let one = least_within c.requires.cheap.0 c.requires.calm.0 c.requires.some in
    let two = least_within (subst (Cheap _) (sym c.requires.cheap.1) c.requires.cheap.0) c.requires.calm.1
    (omega (arith, c.requires.some)) in (
      λ free. let low = one (λ bar. free (c.least_up.ensures ∙ bar)) in omega (arith, c.least_up.ensures),
      λ free. let low = two (λ bar. free (c.least_up-2.ensures ∙ bar)) in omega (arith, c.least_up-2.ensures),
    )

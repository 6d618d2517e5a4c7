-- `unit_row` meets its contract: each turn looks at one entry more.
-- Assumes nothing.
use Rattle.std.proofs.Common.{Bool, true, false, not, ◌≡◌, refl, sym, ◌∙◌, below_more}
use Rattle.std.specs.Int.{from_bool}
use Rattle.parsimony.specs.Column.{cost_at}
use Rattle.parsimony.specs.Test.{pick}
use Rattle.parsimony.proofs.TellsLaws.{all_no}
use Rattle.table_entries.proofs.costs.unit_row.Goals as goal

-- the unit cost of a change, by whether the two states are the same
unit_cost : (same : Bool) → from_bool (not same) ≡ pick same 0 1
unfolding pick
unit_cost true = refl
unit_cost false = refl

pub returns-then-costs-x : goal.returns-then-costs-x
unfolding cost_at
returns-then-costs-x c =
    all_no _ c.loop-y-test.true (λ e. c.if-costs-x.true (e ∙ sym (c.from.ensures ∙ unit_cost _)))

pub loop-y-preserved : goal.loop-y-preserved
unfolding cost_at
loop-y-preserved c = below_more _ _ c.loop-y.invariant (c.if-costs-x.false ∙ c.from.ensures ∙ unit_cost _)

-- `four_costs` meets its contract: four numbers with what parts them, of which the x-th is 0.
-- Assumes nothing.
use mathlib.Core.Path.{sym}
use borrow.Author.Tests.{eq-eqb, ne_eqb}
use Rattle.sheet_costs.specs.Costs.{cost_item, cost_row_of}
use Rattle.sheet_costs.proofs.four_costs.Goals as goal

pub returns-in_err-a : goal.returns-in_err-a
unfolding cost_item cost_row_of
returns-in_err-a c = λ line. rw (c.from_residual.ensures, sym c.in_err-a.ensures)

pub returns-in_err-b : goal.returns-in_err-b
unfolding cost_item cost_row_of
returns-in_err-b c = λ line. rw (c.from_residual-in_err-b.ensures, sym c.in_ok-a.ensures, sym c.in_err-b.ensures)

pub returns-in_err-c : goal.returns-in_err-c
unfolding cost_item cost_row_of
returns-in_err-c c =
    λ line. rw (
      c.from_residual-in_err-c.ensures,
      sym c.in_ok-a.ensures,
      sym c.in_ok-b.ensures,
      sym c.in_err-c.ensures,
    )

pub returns-in_err-d : goal.returns-in_err-d
unfolding cost_item cost_row_of
returns-in_err-d c =
    λ line. rw (
      c.from_residual-in_err-d.ensures,
      sym c.in_ok-a.ensures,
      sym c.in_ok-b.ensures,
      sym c.in_ok-c.ensures,
      sym c.in_err-d.ensures,
    )

pub returns-then-row-x-ne0 : goal.returns-then-row-x-ne0
unfolding cost_item cost_row_of
returns-then-row-x-ne0 c =
    λ line. rw (
      sym c.in_ok-a.ensures,
      sym c.in_ok-b.ensures,
      sym c.in_ok-c.ensures,
      sym c.in_ok-d.ensures,
      ne_eqb _ _ c.if-row-x-ne0.true,
    )

pub returns : goal.returns
unfolding cost_item cost_row_of
returns c =
    λ line. rw (
      sym c.in_ok-a.ensures,
      sym c.in_ok-b.ensures,
      sym c.in_ok-c.ensures,
      sym c.in_ok-d.ensures,
      eq-eqb _ _ c.if-row-x-ne0.false,
    )

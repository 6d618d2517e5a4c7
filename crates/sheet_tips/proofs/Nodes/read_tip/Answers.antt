-- `read_tip` meets its contract, case by case.
-- Assumes nothing.
use lib.ListN.{length}
use Rattle.std.proofs.Common.{rules}
use Prim.Native.Nat.{◌≤◌}
use mathlib.Core.Path.{refl, subst, sym, ◌∙◌}
use native.Mathlib.Omega.{arith}
use Rattle.sheet_tips.specs.Marks.{marked}
use Rattle.sheet_tips.proofs.TipSteps.{tip_room, name_empty, name_unknown, name_again, name_got}
use Rattle.sheet_tips.proofs.TokenLaws.{row_below, row_position, token_from, token_within}
use Rattle.sheet_tips.proofs.Nodes.read_tip.Goals as goal

pub returns-then-end-at : goal.returns-then-end-at
returns-then-end-at c =
    record {
      gives = name_empty _ _ _ _ _ _ _ _ _ c.token_end-end.ensures _ _ _ c.if-end-at.true;
      same = search rules;
    }

pub find_row-requires : goal.find_row-requires
find_row-requires c = (
  (let from = subst (λ k. c.args.at ≤ k) (sym c.token_end-end.ensures) (token_from _ _) in
      let other = c.if-end-at.false in
      omega arith),
  subst (λ k. k ≤ length c.args.sheet.now) (sym c.token_end-end.ensures)
      (token_within _ _ (λ e. c.if-end-at.false (c.token_end-end.ensures ∙ e))),
)

pub returns-in_err-r : goal.returns-in_err-r
returns-in_err-r c =
    rw c.from_residual.ensures
    (record {
      gives = name_unknown _ _ _ _ _ _ _ _ _ c.token_end-end.ensures c.if-end-at.false _ _ _
          (sym (row_position _ _ _ _) ∙ sym c.in_err-r.ensures);
      same = search rules;
    })

pub returns-then-test_mark : goal.returns-then-test_mark
returns-then-test_mark c =
    record {
      gives = name_again _ _ _ _ _ _ _ _ _ c.token_end-end.ensures c.if-end-at.false _
          (sym (row_position _ _ _ _) ∙ sym c.in_ok-r.ensures) _ _ _ (sym c.test_mark.ensures ∙ c.if-test_mark.true);
      same = search rules;
    }

pub put_node-requires : goal.put_node-requires
put_node-requires c =
    let room = (tip_room _ _ _ _ _ _ c.requires c.in_ok-r.r
    (row_below _ _ _ _ _ _ c.requires.named (sym (row_position _ _ _ _) ∙ sym c.in_ok-r.ensures))
    (sym c.test_mark.ensures ∙ c.if-test_mark.false)).1 in
    (omega (arith, c.requires.left_room), omega (arith, c.requires.right_room))

pub returns : goal.returns
unfolding marked
returns c =
    record {
      gives = name_got _ _ _ _ _ _ _ _ _ c.token_end-end.ensures c.if-end-at.false _
          (sym (row_position _ _ _ _) ∙ sym c.in_ok-r.ensures) _ _ _ _ _ c.put_node.ensures.put.2
          (sym c.test_mark.ensures ∙ c.if-test_mark.false) c.put_node.ensures.put.0 c.put_node.ensures.put.1 refl
          c.put_node.ensures.put.3;
      same = search rules;
    }

-- `tree_line` meets its contract, case by case.
-- Assumes nothing.
use Rattle.sheet_tips.specs.Marks.{unmarked}
use Rattle.sheet_tree.proofs.LineSteps.{
  start_ready,
  line_tree_none,
  line_tree_stop,
  line_after,
  line_missing,
  line_got,
  line_nodes,
}
use Rattle.sheet_tree.proofs.PairSteps.{gives_place, gives_no_place}
use mathlib.Core.Path.{sym, ◌∙◌}
use native.Mathlib.Omega.{arith}
use Rattle.sheet_tree.proofs.tree_line.Goals as goal

pub read_tree-requires : goal.read_tree-requires
unfolding unmarked
read_tree-requires c = start_ready _ _ _ _ c.requires (omega arith) c.told-left c.told-right

pub returns-in_err-stop : goal.returns-in_err-stop
unfolding unmarked
returns-in_err-stop c =
    rw c.from_residual.ensures
    (record {
      gives = line_tree_none _ _ _ _ _ (gives_no_place _ c.read_tree.ensures.gives c.in_err-stop.was);
    })

pub returns-then-not-byte_is : goal.returns-then-not-byte_is
unfolding unmarked
returns-then-not-byte_is c =
    record {
      gives = line_tree_stop _ _ _ _ _ _ _ _ _ _ _ _ (gives_place _ _ c.read_tree.ensures.gives c.in_ok-stop.was)
          (sym c.byte_is.ensures ∙ c.if-not-byte_is.true);
    }

pub returns-then-stop-end : goal.returns-then-stop-end
unfolding unmarked
returns-then-stop-end c =
    record {
      gives = line_after _ _ _ _ _ _ _ _ _ _ _ _ (gives_place _ _ c.read_tree.ensures.gives c.in_ok-stop.was)
          (sym c.byte_is.ensures ∙ c.if-not-byte_is.false) c.if-stop-end.true;
    }

pub overflow_add-made : goal.overflow_add-made
unfolding unmarked
overflow_add-made c =
    record {
      fits = let n = line_nodes _ _ _ _ c.args.end _ _ _ _ _ _ _
          (gives_place _ _ c.read_tree.ensures.gives c.in_ok-stop.was) c.requires (omega arith) in omega arith;
    }

pub returns-then-made-names : goal.returns-then-made-names
unfolding unmarked
returns-then-made-names c =
    record {
      gives = line_missing _ _ _ _ _ _ _ _ _ _ _ _ (gives_place _ _ c.read_tree.ensures.gives c.in_ok-stop.was)
          (sym c.byte_is.ensures ∙ c.if-not-byte_is.false) c.if-stop-end.false c.if-made-names.true;
    }

pub returns : goal.returns
unfolding unmarked
returns c =
    record {
      gives = line_got _ _ _ _ _ _ _ _ _ _ _ _ (gives_place _ _ c.read_tree.ensures.gives c.in_ok-stop.was)
          (sym c.byte_is.ensures ∙ c.if-not-byte_is.false) c.if-stop-end.false c.if-made-names.false;
    }

-- The readers of a tree and of a pair meet their contracts.
-- Assumes nothing.
use Rattle.std.proofs.Common.{rules, refl, sym, ◌∙◌, arith}
use Rattle.sheet_tree.proofs.PairSteps.{gives_place, gives_no_place, gives_same, tree_pair, tree_name, pair_flat, pair_first}
use Rattle.sheet_tree.proofs.PairSteps.{pair_comma, pair_second, pair_close, pair_whole, second_ready, pair_room, pair_got}
use Rattle.sheet_tree.proofs.+read_pair_read_tree.Goals as goal

-- no depth is left
pub read_pair-returns-then-depth-eq0 : goal.read_pair-returns-then-depth-eq0
read_pair-returns-then-depth-eq0 t c =
    record { gives = record { gives = pair_flat _ _ _ _ _ _ c.if-depth-eq0.true }; same = search rules }

-- there is no first tree
pub read_pair-returns-in_err-comma : goal.read_pair-returns-in_err-comma
read_pair-returns-in_err-comma t c =
    rw c.from_residual.ensures
    (record {
      gives = record { gives = pair_first _ _ _ _ _ _ c.if-depth-eq0.false (gives_no_place _ c.read_tree.ensures.gives c.in_err-comma.was) };
      same = search rules;
    })

-- no comma after it
pub read_pair-returns-then-not-byte_is : goal.read_pair-returns-then-not-byte_is
read_pair-returns-then-not-byte_is t c =
    record {
      gives = record {
        gives = pair_comma _ _ _ _ _ _ c.if-depth-eq0.false _ _ _
            (gives_place _ _ c.read_tree.ensures.gives c.in_ok-comma.was).is
            (sym c.byte_is.ensures ∙ c.if-not-byte_is.true);
      };
      same = search rules;
    }

pub read_pair-read_tree-requires-2 : goal.read_pair-read_tree-requires-2
read_pair-read_tree-requires-2 t c = (
  let e = c.decreases in let ne = c.if-depth-eq0.false in omega arith,
  second_ready _ _ _ _ _ _ _ _ _ c.requires.room_for_names _ _ _ _ _
      (gives_place _ _ c.read_tree.ensures.gives c.in_ok-comma.was),
)

-- there is no second tree
pub read_pair-returns-in_err-close : goal.read_pair-returns-in_err-close
read_pair-returns-in_err-close t c =
    rw c.from_residual-in_err-close.ensures
    (record {
      gives = record {
        gives = pair_second _ _ _ _ _ _ c.if-depth-eq0.false _ _ _
            (gives_place _ _ c.read_tree.ensures.gives c.in_ok-comma.was).is
            (sym c.byte_is.ensures ∙ c.if-not-byte_is.false)
            (gives_no_place _ c.read_tree-2.ensures.gives c.in_err-close.was);
      };
      same = search rules;
    })

-- no bracket after it
pub read_pair-returns-then-not-byte_is-2 : goal.read_pair-returns-then-not-byte_is-2
read_pair-returns-then-not-byte_is-2 t c =
    record {
      gives = record {
        gives = pair_close _ _ _ _ _ _ c.if-depth-eq0.false _ _ _
            (gives_place _ _ c.read_tree.ensures.gives c.in_ok-comma.was).is
            (sym c.byte_is.ensures ∙ c.if-not-byte_is.false) _ _ _
            (gives_place _ _ c.read_tree-2.ensures.gives c.in_ok-close.was).is
            (sym c.byte_is-2.ensures ∙ c.if-not-byte_is-2.true);
      };
      same = search rules;
    }

pub read_pair-overflow_sub-a : goal.read_pair-overflow_sub-a
read_pair-overflow_sub-a t c =
    (pair_room _ _ _ _ _ _ _ _ _ c.requires.room_for_names _ _ _ _ _
    (gives_place _ _ c.read_tree.ensures.gives c.in_ok-comma.was) _ _ _ _ _ _
    (gives_place _ _ c.read_tree-2.ensures.gives c.in_ok-close.was)).0

pub read_pair-overflow_sub-b : goal.read_pair-overflow_sub-b
read_pair-overflow_sub-b t c =
    (pair_room _ _ _ _ _ _ _ _ _ c.requires.room_for_names _ _ _ _ _
    (gives_place _ _ c.read_tree.ensures.gives c.in_ok-comma.was) _ _ _ _ _ _
    (gives_place _ _ c.read_tree-2.ensures.gives c.in_ok-close.was)).1

pub read_pair-overflow_cast-a : goal.read_pair-overflow_cast-a
read_pair-overflow_cast-a t c =
    let room = pair_room _ _ _ _ _ _ _ _ _ c.requires.room_for_names _ _ _ _ _
    (gives_place _ _ c.read_tree.ensures.gives c.in_ok-comma.was) _ _ _ _ _ _
    (gives_place _ _ c.read_tree-2.ensures.gives c.in_ok-close.was) in
    let a = room.2 in let b = room.3 in omega arith

pub read_pair-overflow_cast-b : goal.read_pair-overflow_cast-b
read_pair-overflow_cast-b t c =
    let room = pair_room _ _ _ _ _ _ _ _ _ c.requires.room_for_names _ _ _ _ _
    (gives_place _ _ c.read_tree.ensures.gives c.in_ok-comma.was) _ _ _ _ _ _
    (gives_place _ _ c.read_tree-2.ensures.gives c.in_ok-close.was) in
    let b = room.3 in omega arith

pub read_pair-put_node-requires : goal.read_pair-put_node-requires
read_pair-put_node-requires t c =
    let one = gives_place _ _ c.read_tree.ensures.gives c.in_ok-comma.was in
    let two = gives_place _ _ c.read_tree-2.ensures.gives c.in_ok-close.was in
    let ready = c.requires.room_for_names in
    let room = (pair_room _ _ _ _ _ _ _ _ _ ready _ _ _ _ _ one _ _ _ _ _ _ two).3 in
    let between = second_ready _ _ _ _ _ _ _ _ _ ready _ _ _ _ _ one in
    let after = second_ready _ _ _ _ _ _ _ _ _ between _ _ _ _ _ two in
    (omega (arith, after.left_room), omega (arith, after.right_room))

-- a whole pair
pub read_pair-returns : goal.read_pair-returns
read_pair-returns t c =
    record {
      gives = record {
        gives = pair_got _ _ _ _ _ _ _ _ _ c.requires.room_for_names _ _ _ _ _
            (gives_place _ _ c.read_tree.ensures.gives c.in_ok-comma.was) _ _ _ _ _ _
            (gives_place _ _ c.read_tree-2.ensures.gives c.in_ok-close.was) _ _ _ _ _ _ _ _
            (pair_whole _ _ _ _ _ _ c.if-depth-eq0.false _ _ _
            (gives_place _ _ c.read_tree.ensures.gives c.in_ok-comma.was).is
            (sym c.byte_is.ensures ∙ c.if-not-byte_is.false) _ _ _
            (gives_place _ _ c.read_tree-2.ensures.gives c.in_ok-close.was).is
            (sym c.byte_is-2.ensures ∙ c.if-not-byte_is-2.false))
            c.put_node.ensures.put.2 refl refl c.put_node.ensures.put.0 c.put_node.ensures.put.1 c.put_node.ensures.put.3;
      };
      same = search rules;
    }

-- a bracket begins a pair
pub read_tree-returns-then-byte_is : goal.read_tree-returns-then-byte_is
read_tree-returns-then-byte_is t c =
    record {
      gives = gives_same (tree_pair _ _ _ _ _ _ (sym c.byte_is.ensures ∙ c.if-byte_is.true)) c.read_pair.ensures.gives;
      same = search rules;
    }

-- anything else is read as a name
pub read_tree-returns : goal.read_tree-returns
read_tree-returns t c =
    record {
      gives = gives_same (tree_name _ _ _ _ _ _ (sym c.byte_is.ensures ∙ c.if-byte_is.false)) c.read_tip.ensures.gives;
      same = search rules;
    }

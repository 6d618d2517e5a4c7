-- The turns of the tree line's reader: a tree, `;`, the end of the line, and every name.
-- Assumes nothing.
use mathlib.Core.Bool.{true, false}
use mathlib.Core.List.{List}
use mathlib.Core.Path.{◌≡◌, ap, ap₂, ◌∙◌}
use Prim.Native.Char.{code}
use Prim.Native.Nat.{ℕ, ◌+◌, ◌*◌, ◌≤◌}
use native.Mathlib.Omega.{arith}
use borrow.Author.Tests.{eq-eqb, ne_eqb}
use lib.Dec.{eqb}
use lib.ListN.{length, get_or}
use Rattle.parsimony.specs.Test.{pick, both}
use Rattle.parsimony.proofs.Order.{pick_true, pick_false}
use Rattle.sheet_tips.specs.Marks.{unmarked}
use Rattle.sheet_tips.specs.Tip.{Parsed, got, no_tree}
use Rattle.sheet_tips.specs.Reading.{RoomForSubtree, Got}
use Rattle.sheet_tips.specs.Vine.{Vine, vine_nodes}
use Rattle.sheet_tips.proofs.MarkLaws.{unmarked_met, unmarked_marks, met_few}
use Rattle.sheet_tree.specs.Parse.{on_parsed, on_byte, tree_of, line_tree}
use Rattle.sheet_tree.specs.Reading.{GotLine}
use Rattle.sheet_tree.proofs.SizeLaws.{tree_of_sized}

-- at first no node is made and no name met
pub start_ready : (names : List ℕ) (t : ℕ) (left right : List ℕ) → t ≤ 512 → t ≤ length names → length left ≡ 1023
    → length right ≡ 1023 → RoomForSubtree names t 0 left right (unmarked 512)
start_ready names t left right few named l r =
    record {
      few = few;
      named = named;
      left_room = l;
      right_room = r;
      known = unmarked_marks;
      made = omega arith;
    }

module _ (sheet names : List ℕ) (t at end : ℕ) where
  -- what follows the tree
  abbrev after_tree : Vine → ℕ → List ℕ → Parsed
  after_tree vine e marks =
      on_byte sheet (code ";") e
      (pick (both (eqb (e + 1) end) (eqb (vine_nodes vine + 1) (2 * t))) (got vine e marks) no_tree)

  -- no line without a tree
  pub line_tree_none : tree_of sheet names t 128 (unmarked 512) at ≡ no_tree → line_tree sheet names t at end ≡ no_tree
  unfolding line_tree on_parsed
  line_tree_none none = ap (λ p. on_parsed p after_tree) none

  module _ (left right : List ℕ) (e n : ℕ) (left' right' marks' : List ℕ)
      (tree : Got (tree_of sheet names t 128 (unmarked 512) at) 0 left right e n left' right' marks') where
    line_on : line_tree sheet names t at end ≡ after_tree tree.vine e marks'
    unfolding line_tree on_parsed
    line_on = ap (λ p. on_parsed p after_tree) tree.is

    -- it has at most 1,023 nodes
    pub line_nodes : t ≤ 512 → t ≤ length names → n ≤ 1023
    line_nodes few named =
        let sized = tree_of_sized sheet names t few named 128 (unmarked 512) unmarked_marks at tree.vine e marks'
        tree.is in
        let most = met_few marks' sized.known in
        let more = sized.more in
        let none = unmarked_met in
        let count = tree.count in
        omega arith

    -- nor without `;`
    pub line_tree_stop : eqb (get_or sheet e 0) (code ";") ≡ false → line_tree sheet names t at end ≡ no_tree
    unfolding on_byte
    line_tree_stop none = line_on ∙ pick_false _ _ none

    module _ (stop : eqb (get_or sheet e 0) (code ";") ≡ true) where
      line_next : line_tree sheet names t at end
          ≡ pick (both (eqb (e + 1) end) (eqb (vine_nodes tree.vine + 1) (2 * t))) (got tree.vine e marks') no_tree
      unfolding on_byte
      line_next = line_on ∙ pick_true _ _ stop

      -- nor with text after it
      pub line_after : (e + 1 ≡ end → ⊥) → line_tree sheet names t at end ≡ no_tree
      unfolding both
      line_after ne =
          line_next
          ∙ pick_false _ _ (ap (λ b. both b (eqb (vine_nodes tree.vine + 1) (2 * t))) (ne_eqb (e + 1) end ne))

      module _ (last : e + 1 ≡ end) where
        -- nor with a name missing
        pub line_missing : (n + 1 ≡ 2 * t → ⊥) → line_tree sheet names t at end ≡ no_tree
        unfolding both
        line_missing ne =
            let count = tree.count in
            line_next
            ∙ pick_false _ _
            (ap₂ both (eq-eqb (e + 1) end last)
            (ne_eqb (vine_nodes tree.vine + 1) (2 * t) (λ p. ne (omega arith))))

        pub line_got : n + 1 ≡ 2 * t → GotLine (line_tree sheet names t at end) left right e n left' right'
        unfolding both
        line_got all =
            let count = tree.count in
            record {
              marks = marks';
              line = record {
                vine = tree.vine;
                is = line_next
                    ∙ pick_true _ _
                    (ap₂ both (eq-eqb (e + 1) end last)
                    (eq-eqb (vine_nodes tree.vine + 1) (2 * t) (omega arith)));
                count = tree.count;
                lefts = tree.lefts;
                rights = tree.rights;
              };
            }

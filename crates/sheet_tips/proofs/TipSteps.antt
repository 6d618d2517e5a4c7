-- The turns of the name's reader, and what it leaves in the lists.
-- Assumes nothing.
use mathlib.Core.Bool.{true, false}
use mathlib.Core.List.{List}
use mathlib.Core.Path.{◌≡◌, ap, ap₂, sym, ◌∙◌}
use Prim.Native.Nat.{ℕ, ◌+◌, ◌<◌}
use native.Mathlib.Omega.{arith}
use borrow.Author.Tests.{eq-eqb, ne_eqb}
use lib.ListN.{set}
use Rattle.std.proofs.Common.{Some, None}
use Rattle.parsimony.specs.Test.{pick}
use Rattle.parsimony.proofs.Order.{pick_true, pick_false}
use Rattle.sheet_lines.specs.Count.{on_place}
use Rattle.sheet_tips.specs.Marks.{is_marked, marked}
use Rattle.sheet_tips.specs.Nodes.{lefts, rights}
use Rattle.sheet_tips.specs.Tip.{got, no_tree, tip_of}
use Rattle.sheet_tips.specs.Reading.{RoomForSubtree, GivesSubtree}
use Rattle.sheet_tips.specs.Token.{token_end, row_named}
use Rattle.sheet_tips.specs.Vine.{tip, vine_nodes}
use Rattle.sheet_tips.proofs.MarkLaws.{met_few, met_mark, marks_mark}

module _ (sheet names : List ℕ) (t : ℕ) (marks : List ℕ) (i : ℕ) where
  -- where no name stands there is no tree
  pub tip_empty : token_end sheet i ≡ i → tip_of sheet names t marks i ≡ no_tree
  unfolding tip_of
  tip_empty e = pick_true _ _ (eq-eqb _ _ e)

  tip_token : (token_end sheet i ≡ i → ⊥) → tip_of sheet names t marks i
      ≡ on_place (row_named sheet names t i (token_end sheet i)) no_tree
      (λ r. pick (is_marked marks r) no_tree (got (tip r) (token_end sheet i) (marked marks r)))
  unfolding tip_of
  tip_token ne = pick_false _ _ (ne_eqb _ _ ne)

  -- nor where a name is none of the sheet's
  pub tip_unknown : (token_end sheet i ≡ i → ⊥) → row_named sheet names t i (token_end sheet i) ≡ None
      → tip_of sheet names t marks i ≡ no_tree
  unfolding on_place
  tip_unknown ne e =
      tip_token ne
      ∙ ap
      (λ p. on_place p no_tree (λ r. pick (is_marked marks r) no_tree (got (tip r) (token_end sheet i) (marked marks r)))) e

  module _ (ne : token_end sheet i ≡ i → ⊥) (r : ℕ)
      (found : row_named sheet names t i (token_end sheet i) ≡ Some r) where
    tip_row : tip_of sheet names t marks i
        ≡ pick (is_marked marks r) no_tree (got (tip r) (token_end sheet i) (marked marks r))
    unfolding on_place
    tip_row =
        tip_token ne
        ∙ ap
        (λ p. on_place p no_tree (λ r. pick (is_marked marks r) no_tree (got (tip r) (token_end sheet i) (marked marks r))))
        found

    -- nor where it has been met
    pub tip_again : is_marked marks r ≡ true → tip_of sheet names t marks i ≡ no_tree
    tip_again y = tip_row ∙ pick_true _ _ y

    pub tip_new : is_marked marks r ≡ false
        → tip_of sheet names t marks i ≡ got (tip r) (token_end sheet i) (marked marks r)
    tip_new n = tip_row ∙ pick_false _ _ n

-- there is room for a name that has not been met
pub tip_room : (names : List ℕ) (t n : ℕ) (left right marks : List ℕ) → RoomForSubtree names t n left right marks
    → (r : ℕ) → r < t → is_marked marks r ≡ false → (r < 512) × (n < 1023)
tip_room names t n left right marks ready r low free =
    let few = ready.few in
    let below : r < 512 = omega arith in
    let more = met_mark marks ready.known r below free in
    let most = met_few (marked marks r) (marks_mark marks ready.known r below free) in
    let made = ready.made in
    (below, omega arith)

-- The name at a place, read.
module _ (sheet names : List ℕ) (t : ℕ) (marks : List ℕ) (i n : ℕ) (left right : List ℕ) (e : ℕ)
    (is-end : e ≡ token_end sheet i) where
  pub name_empty : (left' right' marks' : List ℕ) → e ≡ i
      → GivesSubtree (tip_of sheet names t marks i) n left right None left' right' marks'
  name_empty left' right' marks' same = record { gives = tip_empty sheet names t marks i (sym is-end ∙ same) }

  module _ (ne : e ≡ i → ⊥) where
    token : token_end sheet i ≡ i → ⊥
    token same = ne (is-end ∙ same)

    pub name_unknown : (left' right' marks' : List ℕ) → row_named sheet names t i e ≡ None
        → GivesSubtree (tip_of sheet names t marks i) n left right None left' right' marks'
    name_unknown left' right' marks' none =
        record { gives = tip_unknown sheet names t marks i token (ap (row_named sheet names t i) (sym is-end) ∙ none) }

    module _ (r : ℕ) (found : row_named sheet names t i e ≡ Some r) where
      row : row_named sheet names t i (token_end sheet i) ≡ Some r
      row = ap (row_named sheet names t i) (sym is-end) ∙ found

      pub name_again : (left' right' marks' : List ℕ) → is_marked marks r ≡ true
          → GivesSubtree (tip_of sheet names t marks i) n left right None left' right' marks'
      name_again left' right' marks' y = record { gives = tip_again sheet names t marks i token r row y }

      pub name_got : (left' right' marks' : List ℕ) (v m : ℕ) → m ≡ n + 1 → is_marked marks r ≡ false
          → left' ≡ set left n 65535
          → right' ≡ set right n v → v ≡ r → marks' ≡ marked marks r
          → GivesSubtree (tip_of sheet names t marks i) n left right (Some (e, m)) left' right' marks'
      unfolding lefts rights vine_nodes
      name_got left' right' marks' v m count free l s same met =
          record {
            gives = record {
              vine = tip r;
              is = tip_new sheet names t marks i token r row free ∙ ap₂ (got (tip r)) (sym is-end) (sym met);
              count = count;
              lefts = l;
              rights = s ∙ ap (set right n) same;
            };
          }

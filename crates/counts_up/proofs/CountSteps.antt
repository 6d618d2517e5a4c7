-- Counting by sets over a table's nodes: what a node has by what the table says of it, and the changes so far.
-- Assumes nothing.
use mathlib.Core.List.{List}
use mathlib.Core.Path.{◌≡◌, refl, ap, ap₂, sym, ◌∙◌, subst}
use Prim.Native.Nat.{ℕ, suc, ◌+◌, ◌-◌, ◌≤◌, ◌<◌}
use native.Mathlib.Numerals.{add-one}
use native.Mathlib.Omega.{arith}
use borrow.Author.Tests.{eq-eqb, ne_eqb}
use lib.ListN.{length, set}
use Rattle.parsimony.specs.Column.{cell_at}
use Rattle.parsimony.specs.Counting.{meet, change, counted_at, tip_cell}
use Rattle.parsimony.specs.StateSet.{common, union}
use Rattle.parsimony.specs.Sum.{sum}
use Rattle.parsimony.specs.Table.{Kind, leaf, inner, kids_of, kids_at, node_at, Legal}
use Rattle.parsimony.specs.Tree.{Kids, tip, two, merge}
use Rattle.parsimony.specs.Written.{Written, Below, Each}
use Rattle.parsimony.proofs.CountLaws.{change_at, counted_tip, counted_inner, changes_sum}
use Rattle.parsimony.proofs.LegalLaws.{legal_rooted}
use Rattle.parsimony.proofs.Order.{pick_true, pick_false, at_same, at_other}
use Rattle.parsimony.proofs.Sums.{sum_zero, sum_suc, sum_same, sum_le}
use Rattle.parsimony.proofs.TipLaws.{sum_ones, at_le}
use Rattle.parsimony.proofs.WrittenLaws.{entries_none, entries_more}

-- the change counted at a node, by its children,
change_at_lem : (set : ℕ → ℕ) (k : Kids) → merge k 0 change set ≡ change_at set k
change_at_lem set tip = refl
change_at_lem set (two a b) = refl

-- is at most one
change_le : (set : ℕ → ℕ) (k : Kids) → merge k 0 change set ≤ 1
unfolding change
change_le set tip = omega arith
change_le set (two a b) = at_le 0 (common (set a) (set b))

-- sets without a common part meet in their union, and a change is counted
pub meet_apart : (a b : ℕ) → common a b ≡ 0 → (union a b ≡ meet a b) × (1 ≡ change a b)
unfolding meet change
meet_apart a b e = (
  sym (pick_true (union a b) (common a b) (eq-eqb (common a b) 0 e)),
  sym (at_same 0 1 (common a b) (sym e)),
)

-- others meet in their common part, and none is counted
pub meet_common : (a b : ℕ) → (common a b ≡ 0 → ⊥) → (common a b ≡ meet a b) × (0 ≡ change a b)
unfolding meet change
meet_common a b n = (
  sym (pick_false (union a b) (common a b) (ne_eqb (common a b) 0 n)),
  sym (at_other 0 1 (common a b) (λ e. n (sym e))),
)

-- the preliminary sets of the nodes below v were written, and nothing else
abbrev pub SetsTo : List ℕ → List ℕ → ℕ → List ℕ → ℕ → ℕ → List ℕ → List ℕ → Type 0
SetsTo left right c cells j v = Written (Below v) (Each v (λ u w. w ≡ (counted_at left right c cells j u).set))

module _ (left right : List ℕ) (c : ℕ) (cells : List ℕ) (j : ℕ) where
  -- node v's preliminary set
  abbrev set_of : ℕ → ℕ
  set_of v = (counted_at left right c cells j v).set

  -- no set is written at the start
  pub sets_none : (l : List ℕ) → SetsTo left right c cells j 0 l l
  sets_none l = entries_none (λ u w. w ≡ set_of u) l

  -- one node's more
  pub sets_more : {v x : ℕ} {before now : List ℕ} → SetsTo left right c cells j v before now → v < length now
      → x ≡ set_of v → SetsTo left right c cells j (v + 1) before (set now v x)
  sets_more w h e = entries_more (λ u w. w ≡ set_of u) _ _ _ _ w h e

  -- at the end all n nodes'
  pub sets_all : {v n : ℕ} {before now : List ℕ} → SetsTo left right c cells j v before now → v ≡ n
      → SetsTo left right c cells j n before now
  sets_all {before = before} {now = now} w e = subst (λ n. SetsTo left right c cells j n before now) e w

  -- its cell, if it is a symbol tip
  abbrev cell_of : ℕ → ℕ
  cell_of v = tip_cell (cell_at c cells j) (node_at left right v)

  -- the change counted at node v
  abbrev change_of : ℕ → ℕ
  change_of v = merge (kids_at left right v) 0 change set_of

  -- the changes counted at the nodes below v
  unfoldable pub changes_to : ℕ → ℕ
  changes_to v = sum change_of v

  -- none at the start
  pub changes_none : 0 ≡ changes_to 0
  unfolding changes_to
  changes_none = sym (sum_zero change_of)

  -- one node more
  pub changes_more : (v n r : ℕ) → n ≡ changes_to v → r ≡ change_of v → n + r ≡ changes_to (v + 1)
  unfolding changes_to
  changes_more v n r e f = ap₂ ◌+◌ e f ∙ sym (rw add-one (sum_suc change_of v))

  -- there are at most as many as nodes
  pub changes_most : (v : ℕ) → changes_to v ≤ v
  unfolding changes_to
  changes_most v =
      let bound = sum_le change_of (λ u. 1) v (λ u h. change_le set_of (kids_at left right u)) in
      let all = sum_ones v in
      omega arith

  module _ (legal : Legal left right) where
    -- the changes at all nodes are the root's
    pub changes_root : (v n : ℕ) → n ≡ changes_to v → v ≡ length left
        → n ≡ (counted_at left right c cells j (length left - 1)).changes
    unfolding changes_to counted_at
    changes_root v n e all =
        let count : v ≡ suc (length left - 1) = let odd = legal.size.odd in omega arith in
        e
        ∙ ap (sum change_of) count
        ∙ sum_same change_of _ (suc (length left - 1)) (λ u h. change_at_lem set_of (kids_at left right u))
        ∙ sym (changes_sum (length left - 1) (kids_at left right) (legal_rooted legal) cell_of)

    module _ (v : ℕ) (h : v < length left) where
      -- a tip's set is its cell, and no change is counted
      pub tip_count_lem : (k : Kind) (r : ℕ) → leaf k r ≡ node_at left right v
          → (tip_cell (cell_at c cells j) (leaf k r) ≡ set_of v) × (0 ≡ change_of v)
      unfolding counted_at
      tip_count_lem k r e = (
        ap (tip_cell (cell_at c cells j)) e
            ∙ sym (counted_tip (length left - 1) (kids_at left right) (legal_rooted legal) cell_of v (omega arith)
            (ap kids_of (sym e))).0,
        ap (λ q. merge (kids_of q) 0 change set_of) e,
      )

      -- an inner node's is the meet of its children's, and a change is counted where they have no common part
      pub inner_count : (a b x y : ℕ) → inner a b ≡ node_at left right v → x ≡ set_of a → y ≡ set_of b
          → (meet x y ≡ set_of v) × (change x y ≡ change_of v)
      unfolding counted_at
      inner_count a b x y e f g = (
        ap₂ meet f g
            ∙ sym (counted_inner (length left - 1) (kids_at left right) (legal_rooted legal) cell_of v a b (omega arith)
            (ap kids_of (sym e))).0,
        ap₂ change f g ∙ ap (λ q. merge (kids_of q) 0 change set_of) e,
      )

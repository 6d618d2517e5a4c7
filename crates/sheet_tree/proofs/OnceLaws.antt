-- A tree line that is read has each of the sheet's names once.
-- Assumes nothing.
use mathlib.Core.Bool.{Bool, true, false}
use mathlib.Core.List.{List}
use mathlib.Core.Logic.{⊎_elim}
use mathlib.Core.Path.{◌≡◌, refl, ap, sym, ◌∙◌, subst}
use Prim.Native.Char.{code}
use Prim.Native.Nat.{ℕ, zero, suc, ◌+◌, ◌*◌, ◌≤◌, ◌<◌}
use native.Mathlib.Omega.{arith}
use borrow.Author.Tests.{eqb-true}
use lib.Dec.{eqb}
use lib.ListN.{length, get_or, set}
use lib.Seq.{get_or-set_same, get_or-set_other}
use Rattle.parsimony.specs.Sum.{sum}
use Rattle.parsimony.specs.Test.{at, pick, both}
use Rattle.parsimony.proofs.Order.{by_eq, pick_true, pick_false, at_same, at_other}
use Rattle.parsimony.proofs.Sums.{sum_add, sum_at, sum_tight}
use Rattle.parsimony.proofs.TipLaws.{sum_ones}
use Rattle.sheet_tips.specs.Marks.{unmarked, marked, IsMarks}
use Rattle.sheet_tips.specs.Tip.{Parsed, got, no_tree, tip_of}
use Rattle.sheet_tips.specs.Token.{token_end}
use Rattle.sheet_tips.specs.Vine.{Vine, tip, pair, vine_nodes, occurs}
use Rattle.sheet_tips.specs.Nodes.{lefts, rights}
use Rattle.sheet_tips.proofs.MarkLaws.{unmarked_marks, open_mark}
use Rattle.sheet_tips.proofs.TokenLaws.{row_below}
use Rattle.sheet_tree.specs.Parse.{pair_by, tree_by, pair_of, tree_of, line_tree}
use Rattle.sheet_tree.proofs.SizeLaws.{
  none_got,
  got_same,
  on_parsed_lem,
  on_byte_lem,
  tip_from,
  pair_from,
  tree_from_lem,
  tip_sized,
}
use Rattle.sheet_tree.proofs.SpanLaws.{size_tip, size_pair}
use Rattle.sheet_tree.proofs.EntryLaws.{Rows}
use Rattle.sheet_tree.proofs.TableLaws.{vine_legal, vine_tips, vine_handed}
use Rattle.parsimony.specs.Table.{symbol, handed, node_at, tips, Legal}
use Rattle.sheet_lines.proofs.ByteLaws.{both_parts}

-- each name of the tree is one of the t, was not marked, and is marked now; all other marks are as before
pub record Once (t : ℕ) (marks : List ℕ) (vine : Vine) (marks' : List ℕ) : Type 0 where
  pub rows : Rows t vine
  pub adds : (r : ℕ) → get_or marks' r 0 ≡ get_or marks r 0 + occurs r vine

module _ (sheet names : List ℕ) (t : ℕ) (few : t ≤ 512) (named : t ≤ length names) where
  -- what is shown of a reader
  abbrev Shows : (List ℕ → ℕ → Parsed) → Type 0
  Shows reader =
      (marks : List ℕ) → IsMarks marks → (i : ℕ) (vine : Vine) (e : ℕ) (marks' : List ℕ)
      → reader marks i ≡ got vine e marks' → Once t marks vine marks' × IsMarks marks'

  tip_once : Shows (tip_of sheet names t)
  unfolding occurs marked
  tip_once marks known i vine e marks' h =
      let from = tip_from sheet names t marks i vine e marks' h in
      let q = from.row in
      let low = row_below sheet names t i (token_end sheet i) q named from.found in
      let long = known.long in
      let was = open_mark marks known q (omega arith) from.free in (
        record {
          rows = subst (Rows t) (sym from.is) low;
          adds = λ r. ap (λ m. get_or m r 0) from.noted
              ∙ by_eq r q
              (λ p. let now : get_or (set marks q 1) r 0 ≡ 1 =
              ap (λ k. get_or (set marks q 1) k 0) p ∙ get_or-set_same marks q 1 0 (omega arith) in
              let before : get_or marks r 0 ≡ 0 = ap (λ k. get_or marks k 0) p ∙ was in
              let one : occurs r vine ≡ 1 = ap (occurs r) from.is ∙ at_same r 1 q p in
              omega arith)
              (λ ne. let now : get_or (set marks q 1) r 0 ≡ get_or marks r 0 = get_or-set_other marks q r 1 0 ne in
              let none : occurs r vine ≡ 0 = ap (occurs r) from.is ∙ at_other r 1 q ne in
              omega arith);
        },
        (tip_sized sheet names t few named marks known i vine e marks' h).known,
      )

  pair_once : (sub : List ℕ → ℕ → Parsed) → Shows sub → Shows (pair_by sheet names t sub)
  unfolding occurs
  pair_once sub each marks known i vine e marks' h =
      let from = pair_from sheet names t sub marks i vine e marks' h in
      let (one, known₁) = each marks known (i + 1) from.a from.k from.between from.first in
      let (two, known₂) = each from.between known₁ (from.k + 1) from.b from.m marks' from.second in (
        record {
          rows = subst (Rows t) (sym from.is) (one.rows, two.rows);
          adds = λ r. let p = one.adds r in
              let q = two.adds r in
              let both_occur : occurs r vine ≡ occurs r from.a + occurs r from.b = ap (occurs r) from.is in
              omega arith;
        },
        known₂,
      )

  tree_once : (pair_at : List ℕ → ℕ → Parsed) → Shows pair_at → Shows (tree_by sheet names t pair_at)
  tree_once pair_at each marks known i vine e marks' h =
      ⊎_elim (λ p. each marks known i vine e marks' p.1) (λ p. tip_once marks known i vine e marks' p.1)
      (tree_from_lem sheet names t pair_at marks i (got vine e marks') h)

  pair_of_once : (depth : ℕ) → Shows (pair_of sheet names t depth)
  unfolding pair_of
  pair_of_once zero marks known i vine e marks' h = absurd (none_got h)
  pair_of_once (suc depth) marks known i vine e marks' h =
      pair_once (tree_by sheet names t (pair_of sheet names t depth))
      (tree_once (pair_of sheet names t depth) (pair_of_once depth)) marks known i vine e marks' h

  pub tree_of_once : (depth : ℕ) → Shows (tree_of sheet names t depth)
  unfolding tree_of
  tree_of_once depth = tree_once (pair_of sheet names t depth) (pair_of_once depth)

-- the names of a tree, counted row by row: half of its nodes and one
pub rows_count : (t : ℕ) (vine : Vine) → Rows t vine → 2 * sum (λ r. occurs r vine) t ≡ vine_nodes vine + 1
unfolding occurs
rows_count t (tip q) low =
    let one = sum_at (λ r. 1) t q low in
    let s = size_tip q in
    omega arith
rows_count t (pair a b) (ra, rb) =
    let total = sum_add (λ r. occurs r a) (λ r. occurs r b) t in
    let one = rows_count t a ra in
    let two = rows_count t b rb in
    let s = size_pair a b in
    omega arith

-- what a tree line that is read came from
pub record LineFrom (sheet names : List ℕ) (t at end : ℕ) (vine : Vine) (e : ℕ) (marks : List ℕ) : Type 0 where
  pub tree : tree_of sheet names t 128 (unmarked 512) at ≡ got vine e marks
  pub stop : get_or sheet e 0 ≡ code ";"
  pub last : e + 1 ≡ end
  pub all : vine_nodes vine + 1 ≡ 2 * t

pub line_from : (sheet names : List ℕ) (t at end : ℕ) (vine : Vine) (e : ℕ) (marks : List ℕ)
    → line_tree sheet names t at end ≡ got vine e marks → LineFrom sheet names t at end vine e marks
unfolding line_tree
line_from sheet names t at end vine e marks h =
    let (v, f, m, tree, h₁) = on_parsed_lem (tree_of sheet names t 128 (unmarked 512) at) _ vine e marks h in
    let (stop, h₂) = on_byte_lem sheet (code ";") f _ vine e marks h₁ in
    go v f m tree stop (both (eqb (f + 1) end) (eqb (vine_nodes v + 1) (2 * t))) refl h₂
  where
    go : (v : Vine) (f : ℕ) (m : List ℕ) → tree_of sheet names t 128 (unmarked 512) at ≡ got v f m
        → get_or sheet f 0 ≡ code ";" → (b : Bool) → both (eqb (f + 1) end) (eqb (vine_nodes v + 1) (2 * t)) ≡ b
        → pick b (got v f m) no_tree ≡ got vine e marks → LineFrom sheet names t at end vine e marks
    go v f m tree stop false y g = absurd (none_got (sym (pick_false (got v f m) no_tree refl) ∙ g))
    go v f m tree stop true y g =
        let same = sym (pick_true (got v f m) no_tree refl) ∙ g in
        let (ev, ef, em) = got_same same in
        let (a, b) = both_parts (eqb (f + 1) end) (eqb (vine_nodes v + 1) (2 * t)) y in
        record {
          tree = tree ∙ same;
          stop = ap (λ k. get_or sheet k 0) (sym ef) ∙ stop;
          last = ap (λ k. k + 1) (sym ef) ∙ eqb-true (f + 1) end a;
          all = ap (λ w. vine_nodes w + 1) (sym ev) ∙ eqb-true (vine_nodes v + 1) (2 * t) b;
        }

module _ (sheet names : List ℕ) (t at end : ℕ) (few : t ≤ 512) (named : t ≤ length names) (vine : Vine) (e : ℕ)
    (marks : List ℕ) (read : line_tree sheet names t at end ≡ got vine e marks) where
  from : LineFrom sheet names t at end vine e marks
  from = line_from sheet names t at end vine e marks read

  shown : Once t (unmarked 512) vine marks × IsMarks marks
  shown = tree_of_once sheet names t few named 128 (unmarked 512) unmarked_marks at vine e marks from.tree

  -- its names are the sheet's
  pub line_rows : Rows t vine
  line_rows = shown.0.rows

  -- and each occurs once
  pub line_once : (r : ℕ) → r < t → occurs r vine ≡ 1
  line_once =
      let all = from.all in
      let count = rows_count t vine line_rows in
      let ones = sum_ones t in
      sum_tight (λ r. occurs r vine) (λ r. 1) t
      (λ r h. let adds = shown.0.adds r in let small = shown.1.small r in omega arith) (omega arith)

  -- it has a name for each two nodes and one
  pub line_size : vine_nodes vine + 1 ≡ 2 * t
  line_size = from.all

  -- so its table is legal, with t symbol tips and no handed tip
  pub line_legal : Legal (lefts vine 0) (rights vine 0)
  line_legal = vine_legal vine t line_rows few line_size line_once

  pub line_tips : tips symbol (node_at (lefts vine 0) (rights vine 0)) (length (lefts vine 0)) ≡ t
  line_tips = vine_tips vine t line_rows few line_size line_once

  pub line_handed : tips handed (node_at (lefts vine 0) (rights vine 0)) (length (lefts vine 0)) ≡ 0
  line_handed = vine_handed vine t line_rows few line_size line_once

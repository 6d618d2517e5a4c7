-- A tree that is read has met a name for each of its tips: two for each node and one more.
-- Assumes nothing.
use mathlib.Core.Bool.{Bool, true, false}
use mathlib.Core.List.{List}
use mathlib.Core.Logic.{◌⊎◌, inl, inr, ⊎_elim}
use mathlib.Core.Path.{◌≡◌, refl, ap, sym, ◌∙◌, subst}
use Prim.Native.Char.{code}
use Prim.Native.Nat.{ℕ, zero, suc, ◌+◌, ◌*◌, ◌≤◌, ◌<◌}
use native.Mathlib.Omega.{arith}
use borrow.Author.Tests.{eqb-true, eqb-false}
use lib.Dec.{eqb}
use lib.ListN.{length, get_or}
use Rattle.std.proofs.Common.{Option, Some, None}
use Rattle.parsimony.specs.Test.{pick}
use Rattle.parsimony.proofs.Order.{pick_true, pick_false}
use Rattle.sheet_lines.specs.Count.{on_place}
use Rattle.sheet_tips.specs.Marks.{is_marked, marked, met, IsMarks}
use Rattle.sheet_tips.specs.Tip.{Parsed, got, no_tree, tip_of}
use Rattle.sheet_tips.specs.Token.{token_end, row_named}
use Rattle.sheet_tips.specs.Vine.{Vine, tip, pair, vine_nodes}
use Rattle.sheet_tips.proofs.MarkLaws.{met_mark, marks_mark}
use Rattle.sheet_tips.proofs.TokenLaws.{row_below}
use Rattle.sheet_tree.specs.Parse.{on_parsed, on_byte, pair_by, tree_by, pair_of, tree_of}

pub none_got : {v : Vine} {e : ℕ} {m : List ℕ} → no_tree ≡ got v e m → ⊥
none_got h = let z : ◌≡◌ {A = ℕ} 0 1 = cc in omega arith

-- what a tree that goes on came from
pub on_parsed_lem : (p : Parsed) (go : Vine → ℕ → List ℕ → Parsed) (v : Vine) (e : ℕ) (m : List ℕ)
    → on_parsed p go ≡ got v e m
    → (v₁ : Vine) × (e₁ : ℕ) × (m₁ : List ℕ) × (p ≡ got v₁ e₁ m₁) × (go v₁ e₁ m₁ ≡ got v e m)
unfolding on_parsed
on_parsed_lem (got v₁ e₁ m₁) go v e m h = (v₁, e₁, m₁, refl, h)
on_parsed_lem no_tree go v e m h = absurd (none_got h)

-- and a byte that it went over
pub on_byte_lem : (sheet : List ℕ) (byte i : ℕ) (p : Parsed) (v : Vine) (e : ℕ) (m : List ℕ)
    → on_byte sheet byte i p ≡ got v e m → (get_or sheet i 0 ≡ byte) × (p ≡ got v e m)
unfolding on_byte
on_byte_lem sheet byte i p v e m h = go (eqb (get_or sheet i 0) byte) refl h
  where
    go : (b : Bool) → eqb (get_or sheet i 0) byte ≡ b → pick b p no_tree ≡ got v e m
        → (get_or sheet i 0 ≡ byte) × (p ≡ got v e m)
    go true y g = (eqb-true (get_or sheet i 0) byte y, sym (pick_true p no_tree refl) ∙ g)
    go false n g = absurd (none_got (sym (pick_false p no_tree refl) ∙ g))

-- what a name that is read came from
pub record TipFrom (sheet names : List ℕ) (t : ℕ) (marks : List ℕ) (i : ℕ) (vine : Vine) (e : ℕ)
    (marks' : List ℕ) : Type 0 where
  pub row : ℕ
  pub some : token_end sheet i ≡ i → ⊥
  pub found : row_named sheet names t i (token_end sheet i) ≡ Some row
  pub free : is_marked marks row ≡ false
  pub is : vine ≡ tip row
  pub after : e ≡ token_end sheet i
  pub noted : marks' ≡ marked marks row

pub got_same : {v w : Vine} {e f : ℕ} {m n : List ℕ} → got v e m ≡ got w f n → (v ≡ w) × (e ≡ f) × (m ≡ n)
got_same h = (cc, cc, cc)

pub tip_from : (sheet names : List ℕ) (t : ℕ) (marks : List ℕ) (i : ℕ) (vine : Vine) (e : ℕ) (marks' : List ℕ)
    → tip_of sheet names t marks i ≡ got vine e marks' → TipFrom sheet names t marks i vine e marks'
unfolding tip_of on_place
tip_from sheet names t marks i vine e marks' h = token (eqb (token_end sheet i) i) refl h
  where
    end : ℕ
    end = token_end sheet i

    mark : (r : ℕ) → row_named sheet names t i end ≡ Some r → (token_end sheet i ≡ i → ⊥) → (b : Bool)
        → is_marked marks r ≡ b → pick b no_tree (got (tip r) end (marked marks r)) ≡ got vine e marks'
        → TipFrom sheet names t marks i vine e marks'
    mark r found some true y g = absurd (none_got (sym (pick_true no_tree (got (tip r) end (marked marks r)) refl) ∙ g))
    mark r found some false y g =
        let (v, f, m) = got_same (sym (pick_false no_tree (got (tip r) end (marked marks r)) refl) ∙ g) in
        record { row = r; some = some; found = found; free = y; is = sym v; after = sym f; noted = sym m }

    place : (p : Option ℕ) → row_named sheet names t i end ≡ p → (token_end sheet i ≡ i → ⊥)
        → on_place p no_tree (λ r. pick (is_marked marks r) no_tree (got (tip r) end (marked marks r))) ≡ got vine e marks'
        → TipFrom sheet names t marks i vine e marks'
    place (Some r) found some g = mark r found some (is_marked marks r) refl g
    place None found some g = absurd (none_got g)

    some : Parsed
    some =
        on_place (row_named sheet names t i end) no_tree
        (λ r. pick (is_marked marks r) no_tree (got (tip r) end (marked marks r)))

    token : (b : Bool) → eqb (token_end sheet i) i ≡ b → pick b no_tree some ≡ got vine e marks'
        → TipFrom sheet names t marks i vine e marks'
    token true y g = absurd (none_got (sym (pick_true no_tree some refl) ∙ g))
    token false y g =
        place (row_named sheet names t i end) refl (eqb-false (token_end sheet i) i y)
        (sym (pick_false no_tree some refl) ∙ g)

-- what a pair that is read came from
pub record PairFrom (sheet : List ℕ) (sub : List ℕ → ℕ → Parsed) (marks : List ℕ) (i : ℕ) (vine : Vine) (e : ℕ)
    (marks' : List ℕ) : Type 0 where
  pub a : Vine
  pub b : Vine
  pub k : ℕ
  pub m : ℕ
  pub between : List ℕ
  pub first : sub marks (i + 1) ≡ got a k between
  pub comma : get_or sheet k 0 ≡ code ","
  pub second : sub between (k + 1) ≡ got b m marks'
  pub close : get_or sheet m 0 ≡ code ")"
  pub is : vine ≡ pair a b
  pub after : e ≡ m + 1

pub pair_from : (sheet names : List ℕ) (t : ℕ) (sub : List ℕ → ℕ → Parsed) (marks : List ℕ) (i : ℕ) (vine : Vine)
    (e : ℕ) (marks' : List ℕ)
    → pair_by sheet names t sub marks i ≡ got vine e marks' → PairFrom sheet sub marks i vine e marks'
unfolding pair_by
pair_from sheet names t sub marks i vine e marks' h =
    let (a, k, m₁, first, h₁) = on_parsed_lem (sub marks (i + 1)) _ vine e marks' h in
    let (comma, h₂) = on_byte_lem sheet (code ",") k _ vine e marks' h₁ in
    let (b, m, m₂, second, h₃) = on_parsed_lem (sub m₁ (k + 1)) _ vine e marks' h₂ in
    let (close, h₄) = on_byte_lem sheet (code ")") m _ vine e marks' h₃ in
    let (v, f, n) = got_same h₄ in
    record {
      a = a;
      b = b;
      k = k;
      m = m;
      between = m₁;
      first = first;
      comma = comma;
      second = second ∙ ap (got b m) n;
      close = close;
      is = sym v;
      after = sym f;
    }

-- what a tree that is read came from: a pair or a name
pub tree_from_lem : (sheet names : List ℕ) (t : ℕ) (pair_at : List ℕ → ℕ → Parsed) (marks : List ℕ) (i : ℕ) (p : Parsed)
    → tree_by sheet names t pair_at marks i ≡ p
    → ((get_or sheet i 0 ≡ code "(") × (pair_at marks i ≡ p))
    ⊎ ((get_or sheet i 0 ≡ code "(" → ⊥) × (tip_of sheet names t marks i ≡ p))
unfolding tree_by
tree_from_lem sheet names t pair_at marks i p h = go (eqb (get_or sheet i 0) (code "(")) refl h
  where
    go : (b : Bool) → eqb (get_or sheet i 0) (code "(") ≡ b → pick b (pair_at marks i) (tip_of sheet names t marks i) ≡ p
        → ((get_or sheet i 0 ≡ code "(") × (pair_at marks i ≡ p))
        ⊎ ((get_or sheet i 0 ≡ code "(" → ⊥) × (tip_of sheet names t marks i ≡ p))
    go true y g = inl (eqb-true _ _ y, sym (pick_true (pair_at marks i) (tip_of sheet names t marks i) refl) ∙ g)
    go false y g = inr (eqb-false _ _ y, sym (pick_false (pair_at marks i) (tip_of sheet names t marks i) refl) ∙ g)

-- the marks after a tree: still marks, and two more met for each node and one
pub record Sized (marks : List ℕ) (vine : Vine) (marks' : List ℕ) : Type 0 where
  pub known : IsMarks marks'
  pub more : 2 * met marks' ≡ 2 * met marks + vine_nodes vine + 1

module _ (sheet names : List ℕ) (t : ℕ) (few : t ≤ 512) (named : t ≤ length names) where
  pub tip_sized : (marks : List ℕ) → IsMarks marks → (i : ℕ) (vine : Vine) (e : ℕ) (marks' : List ℕ)
      → tip_of sheet names t marks i ≡ got vine e marks' → Sized marks vine marks'
  unfolding vine_nodes
  tip_sized marks known i vine e marks' h =
      let from = tip_from sheet names t marks i vine e marks' h in
      let low = row_below sheet names t i (token_end sheet i) from.row named from.found in
      let below : from.row < 512 = omega arith in
      let one : vine_nodes vine ≡ 1 = ap vine_nodes from.is in
      let more = met_mark marks known from.row below from.free in
      let same : met marks' ≡ met (marked marks from.row) = ap met from.noted in
      record {
        known = subst IsMarks (sym from.noted) (marks_mark marks known from.row below from.free);
        more = omega arith;
      }

  pair_sized : (sub : List ℕ → ℕ → Parsed)
      → ((marks : List ℕ) → IsMarks marks → (i : ℕ) (vine : Vine) (e : ℕ) (marks' : List ℕ)
      → sub marks i ≡ got vine e marks' → Sized marks vine marks')
      → (marks : List ℕ) → IsMarks marks → (i : ℕ) (vine : Vine) (e : ℕ) (marks' : List ℕ)
      → pair_by sheet names t sub marks i ≡ got vine e marks' → Sized marks vine marks'
  unfolding vine_nodes
  pair_sized sub each marks known i vine e marks' h =
      let from = pair_from sheet names t sub marks i vine e marks' h in
      let one = each marks known (i + 1) from.a from.k from.between from.first in
      let two = each from.between one.known (from.k + 1) from.b from.m marks' from.second in
      let both : vine_nodes vine ≡ suc (vine_nodes from.a + vine_nodes from.b) = ap vine_nodes from.is in
      let p = one.more in
      let q = two.more in
      record { known = two.known; more = omega arith }

  tree_sized : (pair_at : List ℕ → ℕ → Parsed)
      → ((marks : List ℕ) → IsMarks marks → (i : ℕ) (vine : Vine) (e : ℕ) (marks' : List ℕ)
      → pair_at marks i ≡ got vine e marks' → Sized marks vine marks')
      → (marks : List ℕ) → IsMarks marks → (i : ℕ) (vine : Vine) (e : ℕ) (marks' : List ℕ)
      → tree_by sheet names t pair_at marks i ≡ got vine e marks' → Sized marks vine marks'
  tree_sized pair_at each marks known i vine e marks' h =
      ⊎_elim (λ p. each marks known i vine e marks' p.1) (λ p. tip_sized marks known i vine e marks' p.1)
      (tree_from_lem sheet names t pair_at marks i (got vine e marks') h)

  pub pair_of_sized : (depth : ℕ) (marks : List ℕ) → IsMarks marks → (i : ℕ) (vine : Vine) (e : ℕ) (marks' : List ℕ)
      → pair_of sheet names t depth marks i ≡ got vine e marks' → Sized marks vine marks'
  unfolding pair_of
  pair_of_sized zero marks known i vine e marks' h = absurd (none_got h)
  pair_of_sized (suc depth) marks known i vine e marks' h =
      pair_sized (tree_by sheet names t (pair_of sheet names t depth))
      (tree_sized (pair_of sheet names t depth) (pair_of_sized depth)) marks known i vine e marks' h

  -- every tree that is read is so
  pub tree_of_sized : (depth : ℕ) (marks : List ℕ) → IsMarks marks → (i : ℕ) (vine : Vine) (e : ℕ) (marks' : List ℕ)
      → tree_of sheet names t depth marks i ≡ got vine e marks' → Sized marks vine marks'
  unfolding tree_of
  tree_of_sized depth = tree_sized (pair_of sheet names t depth) (pair_of_sized depth)

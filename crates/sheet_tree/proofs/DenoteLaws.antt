-- What is read is what the text denotes; what is denoted within the depth is read; a text denotes at most one tree.
-- Assumes nothing.
use mathlib.Core.Bool.{Bool, true, false}
use mathlib.Core.List.{List}
use mathlib.Core.Logic.{⊎_elim}
use mathlib.Core.Path.{◌≡◌, refl, ap, ap₂, sym, ◌∙◌, subst}
use Prim.Native.Char.{code}
use Prim.Native.Nat.{ℕ, zero, suc, ◌+◌, ◌-◌, ◌≤◌}
use native.Mathlib.Omega.{arith}
use borrow.Author.Tests.{eq-eqb, ne_eqb, lt-ltb, le-ltb}
use lib.Dec.{ltb}
use lib.ListN.{length, get_or}
use Rattle.std.proofs.Common.{Some}
use Rattle.parsimony.specs.Test.{pick}
use Rattle.parsimony.proofs.Order.{by_lt, pick_true, pick_false, at_same}
use Rattle.sheet_lines.specs.Bytes.{text_of, every}
use Rattle.sheet_lines.proofs.ByteLaws.{both_parts, text_on}
use Rattle.sheet_names.specs.Name.{is_name_byte}
use Rattle.sheet_tips.specs.Marks.{is_marked, marked, IsMarks}
use Rattle.sheet_tips.specs.Tip.{Parsed, got, tip_of}
use Rattle.sheet_tips.specs.Token.{token_end, row_named}
use Rattle.sheet_tips.specs.Vine.{Vine, tip, pair, occurs, greater, deep}
use Rattle.sheet_tips.proofs.TipSteps.{tip_new}
use Rattle.sheet_tree.specs.Denotes.{IsName, Denotes, Different}
use Rattle.sheet_tree.specs.Parse.{pair_by, pair_of, tree_of}
use Rattle.sheet_tree.proofs.NameLaws.{name_read, name_reads}
use Rattle.sheet_tree.proofs.OnceLaws.{tree_of_once}
use Rattle.sheet_tree.proofs.PairSteps.{tree_pair, tree_name, pair_whole}
use Rattle.sheet_tree.proofs.SizeLaws.{none_got, tip_from, pair_from, tree_from_lem}

-- the depth of a pair, and of its trees
deep_pair : (a b : Vine) (d : ℕ) → deep (pair a b) ≤ suc d → (deep a ≤ d) × (deep b ≤ d)
unfolding deep greater
deep_pair a b d h =
    by_lt (deep a) (deep b)
    (λ less. let most : pick (ltb (deep a) (deep b)) (deep b) (deep a) ≡ deep b =
    pick_true (deep b) (deep a) (lt-ltb _ _ less) in
    (omega arith, omega arith))
    (λ more. let most : pick (ltb (deep a) (deep b)) (deep b) (deep a) ≡ deep a =
    pick_false (deep b) (deep a) (le-ltb _ _ more) in
    (omega arith, omega arith))

deep_most : (a b : Vine) (d : ℕ) → deep a ≤ d → deep b ≤ d → deep (pair a b) ≤ suc d
unfolding deep greater
deep_most a b d h k =
    by_lt (deep a) (deep b)
    (λ less. let most : pick (ltb (deep a) (deep b)) (deep b) (deep a) ≡ deep b =
    pick_true (deep b) (deep a) (lt-ltb _ _ less) in
    omega arith)
    (λ more. let most : pick (ltb (deep a) (deep b)) (deep b) (deep a) ≡ deep a =
    pick_false (deep b) (deep a) (le-ltb _ _ more) in
    omega arith)

module _ (sheet names : List ℕ) (t : ℕ) (named : t ≤ length names) where
  -- what is read is denoted, and nests no deeper
  abbrev Says : (List ℕ → ℕ → Parsed) → ℕ → Type 0
  Says reader d =
      (marks : List ℕ) (i : ℕ) (vine : Vine) (e : ℕ) (marks' : List ℕ) → reader marks i ≡ got vine e marks'
      → Denotes sheet names t vine i e × (deep vine ≤ d)

  tip_says : (d : ℕ) → Says (tip_of sheet names t) d
  unfolding deep
  tip_says d marks i vine e marks' h =
      let from = tip_from sheet names t marks i vine e marks' h in
      let name = name_read sheet names t i from.row named from.some from.found in
      let flat : deep vine ≡ 0 = ap deep from.is in (
        subst (λ v. Denotes sheet names t v i e) (sym from.is)
            (subst (λ k. IsName sheet names t from.row i k) (sym from.after) name),
        omega arith,
      )

  pair_says : (sub : List ℕ → ℕ → Parsed) (d : ℕ) → Says sub d
      → (marks : List ℕ) (i : ℕ) (vine : Vine) (e : ℕ) (marks' : List ℕ) → get_or sheet i 0 ≡ code "("
      → pair_by sheet names t sub marks i ≡ got vine e marks' → Denotes sheet names t vine i e × (deep vine ≤ suc d)
  pair_says sub d each marks i vine e marks' opened h =
      let from = pair_from sheet names t sub marks i vine e marks' h in
      let (one, low) = each marks (i + 1) from.a from.k from.between from.first in
      let (two, flat) = each from.between (from.k + 1) from.b from.m marks' from.second in
      let most = deep_most from.a from.b d low flat in
      let same : deep vine ≡ deep (pair from.a from.b) = ap deep from.is in (
        subst (λ v. Denotes sheet names t v i e) (sym from.is)
            (record {
              k = from.k;
              m = from.m;
              opened = opened;
              left = one;
              comma = from.comma;
              right = two;
              closed = from.close;
              after = from.after;
            }),
        omega arith,
      )

  pub tree_says : (d : ℕ) → Says (tree_of sheet names t d) d
  unfolding tree_of pair_of
  tree_says zero marks i vine e marks' h =
      ⊎_elim (λ p. absurd (none_got p.1)) (λ p. tip_says 0 marks i vine e marks' p.1)
      (tree_from_lem sheet names t (pair_of sheet names t 0) marks i (got vine e marks') h)
  tree_says (suc d) marks i vine e marks' h =
      ⊎_elim (λ p. pair_says (tree_of sheet names t d) d (tree_says d) marks i vine e marks' p.0 p.1)
      (λ p. tip_says (suc d) marks i vine e marks' p.1)
      (tree_from_lem sheet names t (pair_of sheet names t (suc d)) marks i (got vine e marks') h)

-- the brackets, the comma and the semicolon stand in no name
open_byte : is_name_byte (code "(") ≡ false
unfolding is_name_byte
open_byte = refl

comma_byte : is_name_byte (code ",") ≡ false
unfolding is_name_byte
comma_byte = refl

close_byte : is_name_byte (code ")") ≡ false
unfolding is_name_byte
close_byte = refl

pub end_byte : is_name_byte (code ";") ≡ false
unfolding is_name_byte
end_byte = refl

true_false : {b : Bool} → b ≡ true → b ≡ false → ⊥
true_false e f = let z : ◌≡◌ {A = ℕ} 0 1 = cc in omega arith

at_place : {q r : ℕ} → Some q ≡ Some r → q ≡ r
at_place e = cc

unmarked_row : (marks : List ℕ) (r : ℕ) → get_or marks r 0 ≡ 0 → is_marked marks r ≡ false
unfolding is_marked
unmarked_row marks r z = ne_eqb (get_or marks r 0) 1 (λ e. omega arith)

deep_none : (a b : Vine) → 1 ≤ deep (pair a b)
unfolding deep
deep_none a b = omega arith

module _ (sheet names : List ℕ) (t : ℕ) (named : t ≤ length names) (different : Different sheet names t) where
  -- a name starts with a byte of a name, and so with no bracket
  name_first : (r i e : ℕ) → IsName sheet names t r i e → is_name_byte (get_or sheet i 0) ≡ true
  unfolding every
  name_first r i e is =
      (both_parts (is_name_byte (get_or sheet i 0)) (every is_name_byte (text_of sheet (i + 1) e))
      (sym (ap (every is_name_byte) (text_on sheet i e is.some is.inside)) ∙ is.name.plain)).0

  name_open : (r i e : ℕ) → IsName sheet names t r i e → get_or sheet i 0 ≡ code "(" → ⊥
  name_open r i e is h = true_false (name_first r i e is) (ap is_name_byte h ∙ open_byte)

  -- A text denotes at most one tree, and ends where no name goes on.
  pub denotes_unique : (v w : Vine) (i e f : ℕ) → Denotes sheet names t v i e → Denotes sheet names t w i f
      → is_name_byte (get_or sheet e 0) ≡ false → is_name_byte (get_or sheet f 0) ≡ false → (v ≡ w) × (e ≡ f)
  denotes_unique (tip q) (tip r) i e f dv dw se sf =
      let (ends, row) = name_reads sheet names t i e q named different dv se in
      let (ends', row') = name_reads sheet names t i f r named different dw sf in
      let same : e ≡ f = sym ends ∙ ends' in
      let q_r : q ≡ r = at_place (sym row ∙ ap (row_named sheet names t i) same ∙ row') in
      (ap tip q_r, same)
  denotes_unique (tip q) (pair c d) i e f dv dw se sf = absurd (name_open q i e dv dw.opened)
  denotes_unique (pair a b) (tip r) i e f dv dw se sf = absurd (name_open r i f dw dv.opened)
  denotes_unique (pair a b) (pair c d) i e f dv dw se sf =
      let (one, k) = denotes_unique a c (i + 1) dv.k dw.k dv.left dw.left
      (ap is_name_byte dv.comma ∙ comma_byte) (ap is_name_byte dw.comma ∙ comma_byte) in
      let (two, m) = denotes_unique b d (dv.k + 1) dv.m dw.m dv.right
      (subst (λ j. Denotes sheet names t d (j + 1) dw.m) (sym k) dw.right)
      (ap is_name_byte dv.closed ∙ close_byte) (ap is_name_byte dw.closed ∙ close_byte) in
      (ap₂ pair one two, dv.after ∙ ap (λ j. j + 1) m ∙ sym dw.after)

  module _ (few : t ≤ 512) where
    -- Whatever is denoted within the depth, with names that have not been met, is read.
    pub denotes_read : (v : Vine) (d : ℕ) (marks : List ℕ) (i e : ℕ) → IsMarks marks → Denotes sheet names t v i e
        → deep v ≤ d → is_name_byte (get_or sheet e 0) ≡ false → ((r : ℕ) → get_or marks r 0 + occurs r v ≤ 1)
        → (marks' : List ℕ) × (tree_of sheet names t d marks i ≡ got v e marks')
    unfolding occurs deep
    denotes_read (tip r) d marks i e known is flat stop free =
        let (ends, row) = name_reads sheet names t i e r named different is stop in
        let own = at_same r 1 r refl in
        let clear = free r in
        let unmet : is_marked marks r ≡ false = unmarked_row marks r (omega arith) in
        let from = is.some in
        let some : token_end sheet i ≡ i → ⊥ = λ p. omega arith in
        let read = tip_new sheet names t marks i some r (ap (row_named sheet names t i) ends ∙ row) unmet in (
          marked marks r,
          sym (tree_name sheet names t d marks i (ne_eqb (get_or sheet i 0) (code "(") (name_open r i e is)))
              ∙ read
              ∙ ap (λ k. got (tip r) k (marked marks r)) ends,
        )
    denotes_read (pair a b) zero marks i e known is flat stop free = absurd (let z = deep_none a b in omega arith)
    denotes_read (pair a b) (suc d) marks i e known is flat stop free =
        let (da, db) = deep_pair a b d flat in
        let (marks₁, first) = denotes_read a d marks (i + 1) is.k known is.left da
        (ap is_name_byte is.comma ∙ comma_byte) (λ r. let f = free r in omega arith) in
        let (one, known₁) = tree_of_once sheet names t few named d marks known (i + 1) a is.k marks₁ first in
        let (marks₂, second) = denotes_read b d marks₁ (is.k + 1) is.m known₁ is.right db
        (ap is_name_byte is.closed ∙ close_byte) (λ r. let f = free r in let g = one.adds r in omega arith) in
        let less : suc d - 1 ≡ d = omega arith in
        let whole = pair_whole sheet names t (suc d) marks i (λ z. omega arith) a is.k marks₁
        (ap (λ q. tree_of sheet names t q marks (i + 1)) less ∙ first)
        (eq-eqb (get_or sheet is.k 0) (code ",") is.comma) b is.m marks₂
        (ap (λ q. tree_of sheet names t q marks₁ (is.k + 1)) less ∙ second)
        (eq-eqb (get_or sheet is.m 0) (code ")") is.closed) in (
          marks₂,
          sym (tree_pair sheet names t (suc d) marks i (eq-eqb (get_or sheet i 0) (code "(") is.opened))
              ∙ whole
              ∙ ap (λ k. got (pair a b) k marks₂) (sym is.after),
        )

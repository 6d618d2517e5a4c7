-- The turns of the pair's reader: its brackets and its two trees.
-- Assumes nothing.
use mathlib.Core.Bool.{true, false}
use mathlib.Core.List.{List, [], ◌∷◌, ◌++◌}
use mathlib.Core.Path.{◌≡◌, refl, ap, ap₂, sym, ◌∙◌, subst}
use Prim.Native.Char.{code}
use Prim.Native.Nat.{ℕ, suc, ◌+◌, ◌-◌, ◌≤◌, ◌<◌}
use native.Mathlib.Omega.{arith}
use borrow.Author.Tests.{eqb-true}
use lib.Dec.{eqb}
use lib.ListN.{length, get_or, set, length-append, get_or-eq_default}
use lib.Seq.{sets, length-sets}
use Rattle.std.proofs.Common.{Option, Some, None}
use Rattle.parsimony.proofs.Order.{by_lt, pick_true, pick_false}
use Rattle.sheet_tips.specs.Nodes.{lefts, rights}
use Rattle.sheet_tips.specs.Tip.{Parsed, got, no_tree, tip_of}
use Rattle.sheet_tips.specs.Reading.{RoomForSubtree, Got, GivesSubtreeFor, GivesSubtree}
use Rattle.std.specs.Option.{option_map}
use Rattle.sheet_tips.specs.Vine.{Vine, tip, pair, vine_nodes}
use Rattle.sheet_tips.proofs.MarkLaws.{met_few}
use Rattle.sheet_tree.specs.Parse.{on_parsed, on_byte, pair_by, tree_by, pair_of, tree_of}
use Rattle.sheet_tree.proofs.SizeLaws.{tree_of_sized}

-- a byte that is met stands in the sheet
pub byte_inside : (sheet : List ℕ) (i byte : ℕ) → 1 ≤ byte → eqb (get_or sheet i 0) byte ≡ true → i < length sheet
byte_inside sheet i byte some y =
    by_lt i (length sheet) (λ h. h)
    (λ over. absurd (let z : get_or sheet i 0 ≡ 0 = get_or-eq_default sheet 0 over in
    let e = eqb-true (get_or sheet i 0) byte y in omega arith))

-- an answer by its case
pub gives_tree : {p : Parsed} {n : ℕ} {left right : List ℕ} {answer : Option (ℕ × ℕ)} {left' right' marks' : List ℕ}
    (k a : ℕ)
    → GivesSubtree p n left right answer left' right' marks' → answer ≡ Some (k, a)
    → Got p n left right k a left' right' marks'
gives_tree {p} {n} {left} {right} {answer} {left'} {right'} {marks'} k a g e =
    subst (λ s. GivesSubtreeFor p n left right s left' right' marks') e g.gives

pub gives_none : {p : Parsed} {n : ℕ} {left right : List ℕ} {answer : Option (ℕ × ℕ)} {left' right' marks' : List ℕ}
    → GivesSubtree p n left right answer left' right' marks' → answer ≡ None → p ≡ no_tree
gives_none {p} {n} {left} {right} {answer} {left'} {right'} {marks'} g e =
    subst (λ s. GivesSubtreeFor p n left right s left' right' marks') e g.gives

-- the same of a reader that answers with the place, and leaves m nodes
pub gives_place : {p : Parsed} {n : ℕ} {left right : List ℕ} {answer : Option ℕ} {left' right' marks' : List ℕ}
    (k m : ℕ)
    → GivesSubtree p n left right (option_map (λ next. (next, m)) answer) left' right' marks' → answer ≡ Some k
    → Got p n left right k m left' right' marks'
gives_place k m g e = gives_tree k m g (ap (option_map (λ next. (next, m))) e)

pub gives_no_place : {p : Parsed} {n : ℕ} {left right : List ℕ} {answer : Option ℕ} {left' right' marks' : List ℕ}
    (m : ℕ)
    → GivesSubtree p n left right (option_map (λ next. (next, m)) answer) left' right' marks' → answer ≡ None
    → p ≡ no_tree
gives_no_place m g e = gives_none g (ap (option_map (λ next. (next, m))) e)

-- an answer for the same text
pub gives_same : {p q : Parsed} {n : ℕ} {left right : List ℕ} {answer : Option (ℕ × ℕ)}
    {left' right' marks' : List ℕ} → q ≡ p
    → GivesSubtree q n left right answer left' right' marks' → GivesSubtree p n left right answer left' right' marks'
gives_same {p} {q} {n} {left} {right} {answer} {left'} {right'} {marks'} e g =
    subst (λ r. GivesSubtree r n left right answer left' right' marks') e g

module _ (sheet names : List ℕ) (t depth : ℕ) (marks : List ℕ) (i : ℕ) where
  -- a tree that starts with a bracket is a pair, and any other a name
  pub tree_pair : eqb (get_or sheet i 0) (code "(") ≡ true
      → pair_of sheet names t depth marks i ≡ tree_of sheet names t depth marks i
  unfolding tree_of tree_by
  tree_pair y = sym (pick_true _ _ y)

  pub tree_name : eqb (get_or sheet i 0) (code "(") ≡ false
      → tip_of sheet names t marks i ≡ tree_of sheet names t depth marks i
  unfolding tree_of tree_by
  tree_name n = sym (pick_false _ _ n)

  -- no pair where no bracket may be left
  pub pair_flat : depth ≡ 0 → pair_of sheet names t depth marks i ≡ no_tree
  unfolding pair_of
  pair_flat e = ap (λ d. pair_of sheet names t d marks i) e

  module _ (ne : depth ≡ 0 → ⊥) where
    -- what follows the first tree, and what follows the second
    abbrev after_second : Vine → Vine → ℕ → List ℕ → Parsed
    after_second a b m marks₂ = on_byte sheet (code ")") m (got (pair a b) (m + 1) marks₂)

    abbrev after_first : Vine → ℕ → List ℕ → Parsed
    after_first a k marks₁ =
        on_byte sheet (code ",") k (on_parsed (tree_of sheet names t (depth - 1) marks₁ (k + 1)) (after_second a))

    pair_open : pair_of sheet names t depth marks i ≡ pair_by sheet names t (tree_of sheet names t (depth - 1)) marks i
    unfolding pair_of tree_of
    pair_open = let next : depth ≡ suc (depth - 1) = omega arith in ap (λ d. pair_of sheet names t d marks i) next

    -- no pair without a first tree
    pub pair_first : tree_of sheet names t (depth - 1) marks (i + 1) ≡ no_tree
        → pair_of sheet names t depth marks i ≡ no_tree
    unfolding pair_by on_parsed
    pair_first none = pair_open ∙ ap (λ p. on_parsed p after_first) none

    module _ (a : Vine) (k : ℕ) (marks₁ : List ℕ)
        (first : tree_of sheet names t (depth - 1) marks (i + 1) ≡ got a k marks₁) where
      pair_on : pair_of sheet names t depth marks i ≡ after_first a k marks₁
      unfolding pair_by on_parsed
      pair_on = pair_open ∙ ap (λ p. on_parsed p after_first) first

      -- nor without a comma after it
      pub pair_comma : eqb (get_or sheet k 0) (code ",") ≡ false → pair_of sheet names t depth marks i ≡ no_tree
      unfolding on_byte
      pair_comma n = pair_on ∙ pick_false _ _ n

      module _ (comma : eqb (get_or sheet k 0) (code ",") ≡ true) where
        pair_next : pair_of sheet names t depth marks i
            ≡ on_parsed (tree_of sheet names t (depth - 1) marks₁ (k + 1)) (after_second a)
        unfolding on_byte
        pair_next = pair_on ∙ pick_true _ _ comma

        -- nor without a second tree
        pub pair_second : tree_of sheet names t (depth - 1) marks₁ (k + 1) ≡ no_tree
            → pair_of sheet names t depth marks i ≡ no_tree
        unfolding on_parsed
        pair_second none = pair_next ∙ ap (λ p. on_parsed p (after_second a)) none

        module _ (b : Vine) (m : ℕ) (marks₂ : List ℕ)
            (second : tree_of sheet names t (depth - 1) marks₁ (k + 1) ≡ got b m marks₂) where
          pair_last : pair_of sheet names t depth marks i ≡ after_second a b m marks₂
          unfolding on_parsed
          pair_last = pair_next ∙ ap (λ p. on_parsed p (after_second a)) second

          -- nor without a closing bracket
          pub pair_close : eqb (get_or sheet m 0) (code ")") ≡ false → pair_of sheet names t depth marks i ≡ no_tree
          unfolding on_byte
          pair_close n = pair_last ∙ pick_false _ _ n

          pub pair_whole : eqb (get_or sheet m 0) (code ")") ≡ true
              → pair_of sheet names t depth marks i ≡ got (pair a b) (m + 1) marks₂
          unfolding on_byte
          pair_whole y = pair_last ∙ pick_true _ _ y

-- a tree has a node, and as many entries as nodes
pub size_some : (vine : Vine) → 1 ≤ vine_nodes vine
unfolding vine_nodes
size_some (tip r) = omega arith
size_some (pair a b) = omega arith

pub lefts_long : (vine : Vine) (n : ℕ) → length (lefts vine n) ≡ vine_nodes vine
unfolding lefts vine_nodes
lefts_long (tip r) n = refl
lefts_long (pair a b) n =
    let one = lefts_long a n in
    let two = lefts_long b (n + vine_nodes a) in
    let p = length-append (lefts a n) (lefts b (n + vine_nodes a) ++ (n + vine_nodes a - 1) ∷ []) in
    let q : length (lefts b (n + vine_nodes a) ++ (n + vine_nodes a - 1) ∷ []) ≡ length (lefts b (n + vine_nodes a)) + 1 =
    length-append (lefts b (n + vine_nodes a)) ((n + vine_nodes a - 1) ∷ []) in
    omega arith

pub rights_long : (vine : Vine) (n : ℕ) → length (rights vine n) ≡ vine_nodes vine
unfolding rights vine_nodes
rights_long (tip r) n = refl
rights_long (pair a b) n =
    let one = rights_long a n in
    let two = rights_long b (n + vine_nodes a) in
    let p = length-append (rights a n) (rights b (n + vine_nodes a) ++ (n + vine_nodes a + vine_nodes b - 1) ∷ []) in
    let q : length (rights b (n + vine_nodes a) ++ (n + vine_nodes a + vine_nodes b - 1) ∷ [])
    ≡ length (rights b (n + vine_nodes a)) + 1 =
    length-append (rights b (n + vine_nodes a)) ((n + vine_nodes a + vine_nodes b - 1) ∷ []) in
    omega arith

-- stores of one list and then of another
pub sets_append : (l : List ℕ) (n : ℕ) (xs ys : List ℕ) → sets l n (xs ++ ys) ≡ sets (sets l n xs) (n + length xs) ys
sets_append l n [] ys = let same : n ≡ n + 0 = omega arith in ap (λ k. sets l k ys) same
sets_append l n (x ∷ xs) ys =
    let same : suc n + length xs ≡ n + suc (length xs) = omega arith in
    sets_append (set l n x) (suc n) xs ys ∙ ap (λ k. sets (sets (set l n x) (suc n) xs) k ys) same

-- two runs of stores and one more store
join_sets : (l : List ℕ) (n : ℕ) (xs ys : List ℕ) (v a b : ℕ) (l₁ l₂ l₃ : List ℕ) → l₁ ≡ sets l n xs → a ≡ n + length xs
    → l₂ ≡ sets l₁ a ys → b ≡ a + length ys → l₃ ≡ set l₂ b v → l₃ ≡ sets l n (xs ++ (ys ++ v ∷ []))
join_sets l n xs ys v a b l₁ l₂ l₃ e₁ ea e₂ eb e₃ =
    e₃
    ∙ ap₂ (λ (k : List ℕ) i. set k i v) e₂ eb
    ∙ sym (sets_append l₁ a ys (v ∷ []))
    ∙ ap₂ (λ (k : List ℕ) i. sets k i (ys ++ v ∷ [])) e₁ ea
    ∙ sym (sets_append l n xs (ys ++ v ∷ []))

module _ (sheet names : List ℕ) (t depth n : ℕ) (left right marks : List ℕ) (i : ℕ)
    (ready : RoomForSubtree names t n left right marks) (k a : ℕ) (left₁ right₁ marks₁ : List ℕ)
    (one : Got (tree_of sheet names t depth marks i) n left right k a left₁ right₁ marks₁) where
  -- after the first tree the second may be read
  pub second_ready : RoomForSubtree names t a left₁ right₁ marks₁
  second_ready =
      let sized =
      tree_of_sized sheet names t ready.few ready.named depth marks ready.known i one.vine k marks₁
      one.is in
      let more = sized.more in
      let made = ready.made in
      let count = one.count in
      record {
        few = ready.few;
        named = ready.named;
        left_room = ap length one.lefts ∙ length-sets left n (lefts one.vine n) ∙ ready.left_room;
        right_room = ap length one.rights ∙ length-sets right n (rights one.vine n) ∙ ready.right_room;
        known = sized.known;
        made = omega arith;
      }

  module _ (j m b : ℕ) (left₂ right₂ marks₂ : List ℕ)
      (two : Got (tree_of sheet names t depth marks₁ j) a left₁ right₁ m b left₂ right₂ marks₂) where
    -- and after both there is room for the pair
    pub pair_room : (1 ≤ a) × (1 ≤ b) × (a ≤ b) × (b < 1023)
    pair_room =
        let sized =
        tree_of_sized sheet names t ready.few ready.named depth marks₁ second_ready.known j two.vine m
        marks₂ two.is in
        let before =
        (tree_of_sized sheet names t ready.few ready.named depth marks ready.known i one.vine k marks₁
        one.is).more in
        let few = met_few marks₂ sized.known in
        let more = sized.more in
        let made = ready.made in
        let p = one.count in
        let q = two.count in
        let sa = size_some one.vine in
        let sb = size_some two.vine in
        (omega arith, omega arith, omega arith, omega arith)

    -- the two trees and the pair's own node
    pub pair_got : (parsed : Parsed) (x y e m : ℕ) (left₃ right₃ marks₃ : List ℕ)
        → parsed ≡ got (pair one.vine two.vine) e marks₂ → m ≡ b + 1
        → x ≡ a - 1 → y ≡ b - 1 → left₃ ≡ set left₂ b x → right₃ ≡ set right₂ b y → marks₃ ≡ marks₂
        → Got parsed n left right e m left₃ right₃ marks₃
    unfolding lefts rights vine_nodes
    pair_got parsed x y e m left₃ right₃ marks₃ is more ex ey el er em =
        let p = one.count in
        let q = two.count in
        let la = lefts_long one.vine n in
        let lb = lefts_long two.vine (n + vine_nodes one.vine) in
        let ra = rights_long one.vine n in
        let rb = rights_long two.vine (n + vine_nodes one.vine) in
        record {
          vine = pair one.vine two.vine;
          is = is ∙ ap (got (pair one.vine two.vine) e) (sym em);
          count = omega arith;
          lefts = join_sets left n (lefts one.vine n) (lefts two.vine (n + vine_nodes one.vine))
              (n + vine_nodes one.vine - 1) a b left₁ left₂ left₃ one.lefts (omega arith)
              (two.lefts ∙ ap (λ i. sets left₁ a (lefts two.vine i)) p) (omega arith)
              (el ∙ ap (set left₂ b) (ex ∙ ap (λ i. i - 1) p));
          rights = join_sets right n (rights one.vine n) (rights two.vine (n + vine_nodes one.vine))
              (n + vine_nodes one.vine + vine_nodes two.vine - 1) a b right₁ right₂ right₃ one.rights
              (omega arith) (two.rights ∙ ap (λ i. sets right₁ a (rights two.vine i)) p) (omega arith)
              (er ∙ ap (set right₂ b) (ey ∙ ap (λ i. i - 1) (q ∙ ap (λ i. i + vine_nodes two.vine) p)));
        }

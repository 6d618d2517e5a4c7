-- A name in the tree line, by the grammar and as it is read.
-- Assumes nothing.
use mathlib.Core.Bool.{Bool, true, false}
use mathlib.Core.List.{List, [], ◌∷◌, ◌++◌}
use mathlib.Core.Path.{◌≡◌, refl, ap, ap₂, sym, ◌∙◌}
use Prim.Native.Nat.{ℕ, zero, suc, ◌+◌, ◌-◌, ◌≤◌, ◌<◌}
use native.Mathlib.Omega.{arith}
use borrow.Author.Tests.{eqb-true, eq-eqb}
use lib.Dec.{eqb}
use lib.ListN.{length, get_or, drop}
use lib.Seq.{get_or-append-add, get_or-drop}
use Rattle.std.proofs.Common.{Option, Some, None}
use Rattle.parsimony.specs.Test.{pick}
use Rattle.parsimony.proofs.Order.{by_lt, pick_true, pick_false}
use Rattle.sheet_lines.specs.Bytes.{text_of, every}
use Rattle.sheet_lines.specs.Count.{on_place}
use Rattle.sheet_lines.specs.Word.{word_in, word_of}
use Rattle.sheet_lines.proofs.ByteLaws.{both_parts, text_on, text_end, every_on}
use Rattle.sheet_names.specs.Name.{is_name_byte}
use Rattle.sheet_tips.specs.Token.{token_end, is_line_of, row_named}
use Rattle.sheet_tips.proofs.TokenLaws.{
  token_more,
  token_stop,
  token_end_lem,
  token_from,
  token_within,
  search_from,
  search_begin,
  search_found,
  search_more,
  search_none,
  nowhere_at,
  place_same,
}
use Rattle.sheet_tree.specs.Denotes.{IsName, Different}

-- where a word is found, the bytes begin with it
word_begins : (word bytes : List ℕ) (i stop : ℕ) → word_in word bytes i ≡ Some stop
    → (rest : List ℕ) × (bytes ≡ word ++ rest) × (stop ≡ i + length word)
unfolding word_in
word_begins [] bytes i stop h = (bytes, refl, let e = place_same h in omega arith)
word_begins (letter ∷ word) [] i stop h = absurd (nowhere_at h)
word_begins (letter ∷ word) (byte ∷ bytes) i stop h =
    go (eqb byte letter) refl h (λ g. word_begins word bytes (i + 1) stop g)
  where
    go : (b : Bool) → eqb byte letter ≡ b → pick b (word_in word bytes (i + 1)) None ≡ Some stop
        → (word_in word bytes (i + 1) ≡ Some stop
        → (rest : List ℕ) × (bytes ≡ word ++ rest) × (stop ≡ i + 1 + length word))
        → (rest : List ℕ) × (byte ∷ bytes ≡ letter ∷ (word ++ rest)) × (stop ≡ i + suc (length word))
    go true y g more =
        let (rest, same, place) = more (sym (pick_true (word_in word bytes (i + 1)) None refl) ∙ g) in
        (rest, ap₂ ◌∷◌ (eqb-true byte letter y) same, omega arith)
    go false y g more = absurd (nowhere_at (sym (pick_false (word_in word bytes (i + 1)) None refl) ∙ g))

-- and where they begin with it, it is found
word_found : (word rest : List ℕ) (i : ℕ) → word_in word (word ++ rest) i ≡ Some (i + length word)
unfolding word_in
word_found [] rest i = let same : i ≡ i + 0 = omega arith in ap Some same
word_found (letter ∷ word) rest i =
    pick_true _ _ (eq-eqb letter letter refl)
    ∙ word_found word rest (i + 1)
    ∙ (let same : i + 1 + length word ≡ i + suc (length word) = omega arith in ap Some same)

module _ (sheet : List ℕ) (i e place : ℕ) where
  -- the test of a line says that the line at a place is the text
  pub line_told : is_line_of sheet i e place ≡ true
      → (after : List ℕ) × (drop place sheet ≡ text_of sheet i e ++ (10 ∷ after))
  unfolding is_line_of on_place word_of
  line_told h = go (word_of (text_of sheet i e) sheet place) refl h
    where
      stop_is : (rest : List ℕ) → get_or rest 0 0 ≡ 10 → (after : List ℕ) × (rest ≡ 10 ∷ after)
      stop_is [] z = absurd (let y : ◌≡◌ {A = ℕ} 0 10 = z in omega arith)
      stop_is (byte ∷ after) z = (after, ap (λ b. b ∷ after) z)

      go : (p : Option ℕ) → word_of (text_of sheet i e) sheet place ≡ p
          → on_place p false (λ stop. eqb (get_or sheet stop 0) 10) ≡ true
          → (after : List ℕ) × (drop place sheet ≡ text_of sheet i e ++ (10 ∷ after))
      go None w g = absurd (let z : ◌≡◌ {A = ℕ} 0 1 = cc in omega arith)
      go (Some stop) w g =
          let (rest, same, at_stop) = word_begins (text_of sheet i e) (drop place sheet) place stop w in
          let byte = eqb-true (get_or sheet stop 0) 10 g in
          let first : get_or rest 0 0 ≡ 10 =
          sym (get_or-append-add (text_of sheet i e) rest 0 0)
          ∙ ap (λ l. get_or l (length (text_of sheet i e) + 0) 0) (sym same)
          ∙ get_or-drop place sheet (length (text_of sheet i e) + 0) 0
          ∙ (let here : place + (length (text_of sheet i e) + 0) ≡ stop = omega arith in ap (λ k. get_or sheet k 0) here)
          ∙ byte in
          let (after, is) = stop_is rest first in
          (after, same ∙ ap (λ l. text_of sheet i e ++ l) is)

  -- and where it is, the test holds
  pub line_is : (after : List ℕ) → drop place sheet ≡ text_of sheet i e ++ (10 ∷ after) → is_line_of sheet i e place ≡ true
  unfolding is_line_of on_place word_of
  line_is after same =
      let text = text_of sheet i e in
      let stop = place + length text in
      let found : word_of text sheet place ≡ Some stop =
      ap (λ l. word_in text l place) same ∙ word_found text (10 ∷ after) place in
      let byte : get_or sheet stop 0 ≡ 10 =
      sym (get_or-drop place sheet (length text) 0)
      ∙ ap (λ l. get_or l (length text) 0) same
      ∙ (let here : length text ≡ length text + 0 = omega arith in ap (λ k. get_or (text ++ (10 ∷ after)) k 0) here)
      ∙ get_or-append-add text (10 ∷ after) 0 0 in
      ap (λ p. on_place p false (λ s. eqb (get_or sheet s 0) 10)) found ∙ eq-eqb (get_or sheet stop 0) 10 byte

-- a test, by its value
by_test : {X : Type 0} (b : Bool) → (b ≡ true → X) → (b ≡ false → X) → X
by_test true f g = f refl
by_test false f g = g refl

module _ (sheet : List ℕ) where
  -- every byte of a name may stand in one
  token_plain : (d i : ℕ) → token_end sheet i ≡ i + d → i + d ≤ length sheet
      → every is_name_byte (text_of sheet i (i + d)) ≡ true
  unfolding every
  token_plain zero i h l = ap (every is_name_byte) (text_end sheet i (i + 0) (omega arith) l)
  token_plain (suc d) i h l =
      by_test (is_name_byte (get_or sheet i 0))
      (λ y. let more = token_more sheet i (omega arith) y in
      let same : i + suc d ≡ i + 1 + d = omega arith in
      let rest = token_plain d (i + 1) (sym more ∙ h ∙ same) (omega arith) in
      sym (every_on is_name_byte sheet i (i + suc d) l (omega arith) y)
      ∙ ap (λ e. every is_name_byte (text_of sheet (i + 1) e)) same
      ∙ rest)
      (λ n. absurd (let stop = token_stop sheet i (omega arith) n in omega arith))

  -- and a text of such bytes, with none after it, is a whole name
  token_of : (d i : ℕ) → i + d ≤ length sheet → every is_name_byte (text_of sheet i (i + d)) ≡ true
      → is_name_byte (get_or sheet (i + d) 0) ≡ false → token_end sheet i ≡ i + d
  unfolding every
  token_of zero i l h n =
      let same : i ≡ i + 0 = omega arith in
      by_lt i (length sheet)
      (λ k. token_stop sheet i k (ap (λ j. is_name_byte (get_or sheet j 0)) same ∙ n) ∙ same)
      (λ k. token_end_lem sheet i k ∙ same)
  token_of (suc d) i l h n =
      let split : is_name_byte (get_or sheet i 0) ≡ true =
      (both_parts (is_name_byte (get_or sheet i 0)) (every is_name_byte (text_of sheet (i + 1) (i + suc d)))
      (sym (ap (every is_name_byte) (text_on sheet i (i + suc d) (omega arith) l)) ∙ h)).0 in
      let same : i + suc d ≡ i + 1 + d = omega arith in
      let rest : every is_name_byte (text_of sheet (i + 1) (i + suc d)) ≡ true =
      every_on is_name_byte sheet i (i + suc d) l (omega arith) split ∙ h in
      token_more sheet i (omega arith) split
      ∙ token_of d (i + 1) (omega arith) (ap (λ e. every is_name_byte (text_of sheet (i + 1) e)) (sym same) ∙ rest)
      (ap (λ j. is_name_byte (get_or sheet j 0)) (sym same) ∙ n)
      ∙ sym same

  module _ (names : List ℕ) (t i e : ℕ) (few : t ≤ length names) where
    row_search : (d q r : ℕ) → t ≡ q + d → search_from sheet names t i e q ≡ Some r
        → (r < t) × (is_line_of sheet i e (get_or names r 0) ≡ true)
    row_search zero q r left h = absurd (nowhere_at (sym (search_none sheet names t i e q few (omega arith)) ∙ h))
    row_search (suc d) q r left h =
        by_test (is_line_of sheet i e (get_or names q 0))
        (λ y. let same = place_same (sym (search_found sheet names t i e q few (omega arith) y) ∙ h) in
        (omega arith, ap (λ k. is_line_of sheet i e (get_or names k 0)) (sym same) ∙ y))
        (λ n. row_search d (q + 1) r (omega arith) (sym (search_more sheet names t i e q few (omega arith) n) ∙ h))

    -- the row that is found is one whose name is the text
    pub row_told : (r : ℕ) → row_named sheet names t i e ≡ Some r
        → (r < t) × (is_line_of sheet i e (get_or names r 0) ≡ true)
    row_told r h = row_search t 0 r (omega arith) (search_begin sheet names t i e ∙ h)

    row_sought : (d q r : ℕ) → r ≡ q + d → r < t → is_line_of sheet i e (get_or names r 0) ≡ true
        → ((p : ℕ) → p < t → is_line_of sheet i e (get_or names p 0) ≡ true → p ≡ r)
        → search_from sheet names t i e q ≡ Some r
    row_sought zero q r same low y only =
        let here : q ≡ r = omega arith in
        search_found sheet names t i e q few (omega arith) (ap (λ k. is_line_of sheet i e (get_or names k 0)) here ∙ y)
        ∙ ap Some here
    row_sought (suc d) q r same low y only =
        by_test (is_line_of sheet i e (get_or names q 0))
        (λ z. absurd (let e = only q (omega arith) z in omega arith))
        (λ n. search_more sheet names t i e q few (omega arith) n ∙ row_sought d (q + 1) r (omega arith) low y only)

    -- and where one row's name alone is the text, it is found
    pub named_row_is : (r : ℕ) → r < t → is_line_of sheet i e (get_or names r 0) ≡ true
        → ((p : ℕ) → p < t → is_line_of sheet i e (get_or names p 0) ≡ true → p ≡ r)
        → row_named sheet names t i e ≡ Some r
    named_row_is r low y only = sym (search_begin sheet names t i e) ∙ row_sought r 0 r (omega arith) low y only

  -- the name that is read at a place is a name by the grammar
  pub name_read : (names : List ℕ) (t i r : ℕ) → t ≤ length names → (token_end sheet i ≡ i → ⊥)
      → row_named sheet names t i (token_end sheet i) ≡ Some r → IsName sheet names t r i (token_end sheet i)
  name_read names t i r few some found =
      let e = token_end sheet i in
      let inside = token_within sheet i some in
      let from = token_from sheet i in
      let (low, line) = row_told names t i e few r found in
      let (after, is) = line_told sheet i e (get_or names r 0) line in
      let same : i + (e - i) ≡ e = omega arith in
      record {
        row = low;
        some = by_lt i e (λ h. h) (λ h. absurd (some (omega arith)));
        inside = inside;
        name = record {
          after = after;
          line = is;
          plain = ap (λ k. every is_name_byte (text_of sheet i k)) (sym same)
              ∙ token_plain (e - i) i (sym same) (omega arith);
        };
      }

  -- and a name by the grammar, with no byte of a name after it, is read so
  pub name_reads : (names : List ℕ) (t i e r : ℕ) → t ≤ length names → Different sheet names t
      → IsName sheet names t r i e → is_name_byte (get_or sheet e 0) ≡ false
      → (token_end sheet i ≡ e) × (row_named sheet names t i e ≡ Some r)
  name_reads names t i e r few different is stop =
      let from = is.some in
      let inside = is.inside in
      let same : i + (e - i) ≡ e = omega arith in
      let end = token_of (e - i) i (omega arith)
      (ap (λ k. every is_name_byte (text_of sheet i k)) same ∙ is.name.plain)
      (ap (λ k. is_name_byte (get_or sheet k 0)) same ∙ stop) in (
        end ∙ same,
        named_row_is names t i e few r is.row (line_is sheet i e (get_or names r 0) is.name.after is.name.line)
            (λ p low y. let (after, line) = line_told sheet i e (get_or names p 0) y in
            different.rows p r (text_of sheet i e) low is.row (record {
              after = after;
              line = line;
              plain = is.name.plain;
            })
            is.name),
      )

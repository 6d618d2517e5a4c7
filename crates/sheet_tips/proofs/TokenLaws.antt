-- Laws of the names in the tree line: where they end, and which row they are.
-- Assumes nothing.
use mathlib.Core.Bool.{Bool, true, false}
use mathlib.Core.List.{List, [], ◌∷◌}
use mathlib.Core.Path.{◌≡◌, refl, ap, ap₂, sym, ◌∙◌}
use Prim.Native.Nat.{ℕ, suc, ◌+◌, ◌-◌, ◌≤◌, ◌<◌}
use native.Mathlib.Omega.{arith}
use borrow.Author.Tests.{lt-ltb, le-ltb, ne_eqb}
use lib.ListN.{length, get_or, drop, take, length-drop, drop_of_length-le}
use lib.Seq.{drop-cons, length-take-le, get_or-take}
use Rattle.std.proofs.lemmas.List.{drop_all}
use Rattle.std.proofs.Common.{Option, Some, None, not, cond, position, unwrap_or, ◌⊎◌, inl, inr}
use Rattle.std.proofs.Math.Seq.{take-length}
use Rattle.std.proofs.lemmas.Iterator.Adapters.{position_from-zero}
use Rattle.std.specs.List.{position_or_len, position_from}
use Rattle.parsimony.specs.Test.{pick}
use Rattle.parsimony.proofs.Order.{by_lt, by_eq, pick_true, pick_false}
use Rattle.sheet_names.specs.Name.{is_name_byte}
use Rattle.sheet_lines.proofs.ByteLaws.{text_slice}
use Rattle.sheet_lines.specs.Count.{on_place}
use Rattle.sheet_lines.specs.Word.{word_in, word_of}
use lib.Dec.{eqb, ltb}
use Rattle.sheet_tips.specs.Token.{token_in, token_end, is_line_of, find_in, row_named}

pub nowhere_at : {r : ℕ} → ◌≡◌ {A = Option ℕ} None (Some r) → ⊥
nowhere_at e = let z : ◌≡◌ {A = ℕ} 0 1 = cc in omega arith

pub place_same : {q r : ℕ} → ◌≡◌ {A = Option ℕ} (Some q) (Some r) → q ≡ r
place_same e = cc

-- a name goes on over a byte that may stand in one
pub token_more : (sheet : List ℕ) (i : ℕ) → i < length sheet → is_name_byte (get_or sheet i 0) ≡ true
    → token_end sheet i ≡ token_end sheet (i + 1)
unfolding token_end token_in
token_more sheet i h e =
    ap (λ bytes. token_in bytes i) (drop-cons sheet i 0 h)
    ∙ pick_true _ _ e
    ∙ (let next : suc i ≡ i + 1 = omega arith in ap (λ k. token_in (drop k sheet) (i + 1)) next)

-- and ends at one that may not
pub token_stop : (sheet : List ℕ) (i : ℕ) → i < length sheet → is_name_byte (get_or sheet i 0) ≡ false
    → token_end sheet i ≡ i
unfolding token_end token_in
token_stop sheet i h none = ap (λ bytes. token_in bytes i) (drop-cons sheet i 0 h) ∙ pick_false _ _ none

-- or at the end of the sheet
pub token_end_lem : (sheet : List ℕ) (i : ℕ) → length sheet ≤ i → token_end sheet i ≡ i
unfolding token_end token_in
token_end_lem sheet i h = ap (λ bytes. token_in bytes i) (drop_of_length-le sheet h)

-- it ends at or after its start, and not beyond the sheet
token_in_lem : (bytes : List ℕ) (i : ℕ) → (i ≤ token_in bytes i) × (token_in bytes i ≤ i + length bytes)
unfolding token_in pick
token_in_lem [] i = (omega arith, omega arith)
token_in_lem (byte ∷ more) i = go (is_name_byte byte) (token_in_lem more (i + 1))
  where
    go : (b : Bool) → (i + 1 ≤ token_in more (i + 1)) × (token_in more (i + 1) ≤ i + 1 + length more)
        → (i ≤ pick b (token_in more (i + 1)) i) × (pick b (token_in more (i + 1)) i ≤ i + suc (length more))
    go true (a, b) = (omega arith, omega arith)
    go false (a, b) = (omega arith, omega arith)

-- a name ends at the first byte that may not stand in one
length_lem : (bytes : List ℕ) (i : ℕ)
    → (i + position_or_len (λ byte. not (is_name_byte byte)) bytes ≡ token_in bytes i)
    × (position_or_len (λ byte. not (is_name_byte byte)) bytes ≤ length bytes)
unfolding token_in pick
length_lem [] i = (omega arith, omega arith)
length_lem (byte ∷ more) i =
    go (is_name_byte byte) (position_or_len (λ byte. not (is_name_byte byte)) more) (length_lem more (i + 1))
  where
    go : (b : Bool) (k : ℕ) → (i + 1 + k ≡ token_in more (i + 1)) × (k ≤ length more)
        → (i + cond (not (not b)) (1 + k) 0 ≡ pick b (token_in more (i + 1)) i)
        × (cond (not (not b)) (1 + k) 0 ≤ suc (length more))
    go true k (a, b) = (omega arith, omega arith)
    go false k (a, b) = (omega arith, omega arith)

pub token_length : (sheet rest : List ℕ) (i : ℕ) {found : Option ℕ} → rest ≡ drop i sheet
    → found ≡ position (λ byte. not (is_name_byte byte)) rest
    → i + unwrap_or found (length rest) ≡ token_end sheet i
unfolding token_end
token_length sheet rest i {found} here e =
    ap₂ (λ f l. i + unwrap_or f l)
    (e ∙ ap (position (λ byte. not (is_name_byte byte))) here) (ap length here)
    ∙ by_place (position_or_len (λ byte. not (is_name_byte byte)) (drop i sheet)) (length (drop i sheet))
    (length_lem (drop i sheet) i)
  where
    by_place : (k n : ℕ) → (i + k ≡ token_in (drop i sheet) i) × (k ≤ n)
        → i + unwrap_or (cond (ltb k n) (Some k) None) n ≡ token_in (drop i sheet) i
    by_place k n (a, b) = by_lt k n (λ h. rw (lt-ltb k n h) a) (λ h. rw (le-ltb _ _ h) (omega arith))

pub token_from : (sheet : List ℕ) (i : ℕ) → i ≤ token_end sheet i
unfolding token_end
token_from sheet i = (token_in_lem (drop i sheet) i).0

pub token_within : (sheet : List ℕ) (i : ℕ) → (token_end sheet i ≡ i → ⊥) → token_end sheet i ≤ length sheet
unfolding token_end
token_within sheet i more =
    by_lt i (length sheet)
    (λ h. let most = (token_in_lem (drop i sheet) i).1 in let long = length-drop i sheet in omega arith)
    (λ h. absurd (more (token_end_lem sheet i h)))

-- so it is a place of the sheet, or where it started
pub token_small : (sheet : List ℕ) (i : ℕ) → (token_end sheet i ≤ length sheet) ⊎ (token_end sheet i ≡ i)
token_small sheet i = by_eq (token_end sheet i) i (λ same. inr same) (λ more. inl (token_within sheet i more))

-- the first name that is the text, from row r on
find_step : (sheet : List ℕ) (i e place : ℕ) (places : List ℕ) (r : ℕ)
    → find_in sheet i e (place ∷ places) r
    ≡ pick (is_line_of sheet i e place) (Some r) (find_in sheet i e places (r + 1))
unfolding find_in
find_step sheet i e place places r = refl

-- a row that is found is one of those searched
find_below : (sheet : List ℕ) (i e : ℕ) (places : List ℕ) (from r : ℕ) → find_in sheet i e places from ≡ Some r
    → r < from + length places
unfolding find_in
find_below sheet i e [] from r h = absurd (nowhere_at h)
find_below sheet i e (place ∷ places) from r h =
    go (is_line_of sheet i e place) h (λ g. find_below sheet i e places (from + 1) r g)
  where
    go : (b : Bool) → pick b (Some from) (find_in sheet i e places (from + 1)) ≡ Some r
        → (find_in sheet i e places (from + 1) ≡ Some r → r < from + 1 + length places) → r < from + suc (length places)
    go true g more =
        let same : from ≡ r = place_same (sym (pick_true (Some from) (find_in sheet i e places (from + 1)) refl) ∙ g) in
        omega arith
    go false g more =
        let low = more (sym (pick_false (Some from) (find_in sheet i e places (from + 1)) refl) ∙ g) in
        omega arith

pub row_below : (sheet names : List ℕ) (t i e r : ℕ) → t ≤ length names → row_named sheet names t i e ≡ Some r → r < t
unfolding row_named
row_below sheet names t i e r few h =
    let low = find_below sheet i e (take t names) 0 r h in
    let long : length (take t names) ≡ t = length-take-le t names few in
    omega arith

find_from : (sheet : List ℕ) (i e : ℕ) (places : List ℕ) (r : ℕ)
    → position_from (is_line_of sheet i e) r places ≡ find_in sheet i e places r
unfolding find_in pick
find_from sheet i e [] r = refl
find_from sheet i e (place ∷ places) r = go (is_line_of sheet i e place) (find_from sheet i e places (r + 1))
  where
    go : (b : Bool) → position_from (is_line_of sheet i e) (r + 1) places ≡ find_in sheet i e places (r + 1)
        → cond b (Some r) (position_from (is_line_of sheet i e) (r + 1) places)
        ≡ pick b (Some r) (find_in sheet i e places (r + 1))
    go true more = refl
    go false more = more

-- the row of a name is the first whose line is the name
pub row_position : (sheet names : List ℕ) (i e : ℕ)
    → position (is_line_of sheet i e) names ≡ row_named sheet names (length names) i e
unfolding row_named
row_position sheet names i e =
    position_from-zero (is_line_of sheet i e) names
    ∙ find_from sheet i e names 0
    ∙ ap (λ l. find_in sheet i e l 0) (sym (take-length names))

-- what is left to search after r names
unfoldable pub search_from : List ℕ → List ℕ → ℕ → ℕ → ℕ → ℕ → Option ℕ
unfolding find_in
search_from sheet names t i e r = find_in sheet i e (drop r (take t names)) r

pub search_begin : (sheet names : List ℕ) (t i e : ℕ) → search_from sheet names t i e 0 ≡ row_named sheet names t i e
unfolding search_from row_named
search_begin sheet names t i e = refl

module _ (sheet names : List ℕ) (t i e r : ℕ) (few : t ≤ length names) where
  taken : r < t → drop r (take t names) ≡ get_or names r 0 ∷ drop (r + 1) (take t names)
  taken h =
      let long : length (take t names) ≡ t = length-take-le t names few in
      drop-cons (take t names) r 0 (omega arith)
      ∙ (let next : suc r ≡ r + 1 = omega arith in
      ap₂ ◌∷◌ (get_or-take t names r 0 h) (ap (λ k. drop k (take t names)) next))

  pub search_found : r < t → is_line_of sheet i e (get_or names r 0) ≡ true → search_from sheet names t i e r ≡ Some r
  unfolding search_from
  search_found h y =
      ap (λ l. find_in sheet i e l r) (taken h) ∙ find_step sheet i e (get_or names r 0) (drop (r + 1) (take t names)) r
      ∙ pick_true _ _ y

  pub search_more : r < t → is_line_of sheet i e (get_or names r 0) ≡ false
      → search_from sheet names t i e r ≡ search_from sheet names t i e (r + 1)
  unfolding search_from
  search_more h n =
      ap (λ l. find_in sheet i e l r) (taken h) ∙ find_step sheet i e (get_or names r 0) (drop (r + 1) (take t names)) r
      ∙ pick_false _ _ n

  pub search_none : t ≤ r → search_from sheet names t i e r ≡ None
  unfolding search_from find_in
  search_none h =
      let long : length (take t names) ≡ t = length-take-le t names few in
      let over : length (take t names) ≤ r = omega arith in
      ap (λ l. find_in sheet i e l r) (drop_of_length-le (take t names) over)

module _ (sheet : List ℕ) (i e place : ℕ) (from : i ≤ e) where
  -- the line at a place is not the text where it does not begin with it
  pub line_not : word_of (take (e - i) (drop i sheet)) sheet place ≡ None → false ≡ is_line_of sheet i e place
  unfolding is_line_of on_place
  line_not none =
      sym (ap (λ p. on_place p false (λ stop. eqb (get_or sheet stop 0) 10))
      (ap (λ w. word_of w sheet place) (sym (text_slice sheet i e from)) ∙ none))

  -- and where it does, its end decides
  pub line_end_lem : (stop : ℕ) (b : Bool) → word_of (take (e - i) (drop i sheet)) sheet place ≡ Some stop
      → b ≡ eqb (get_or sheet stop 0) 10 → b ≡ is_line_of sheet i e place
  unfolding is_line_of on_place
  line_end_lem stop b some same =
      same
      ∙ sym (ap (λ p. on_place p false (λ stop. eqb (get_or sheet stop 0) 10))
      (ap (λ w. word_of w sheet place) (sym (text_slice sheet i e from)) ∙ some))

module _ (sheet : List ℕ) (i e place : ℕ) (some : i < e) (inside : e ≤ length sheet) where
  -- the text begins with its first byte
  first_byte : take (e - i) (drop i sheet) ≡ get_or sheet i 0 ∷ take (e - suc i) (drop (suc i) sheet)
  first_byte =
      ap (take (e - i)) (drop-cons sheet i 0 (omega arith))
      ∙ ap (λ k. take k (get_or sheet i 0 ∷ drop (suc i) sheet))
      (let long : e - i ≡ suc (e - suc i) = omega arith in long)

  -- the line is not the text where the sheet is over
  pub line_past : length sheet ≤ place → false ≡ is_line_of sheet i e place
  unfolding word_of word_in
  line_past over =
      line_not sheet i e place (omega arith)
      (ap (λ w. word_of w sheet place) first_byte
      ∙ ap (λ l. word_in (get_or sheet i 0 ∷ take (e - suc i) (drop (suc i) sheet)) l place)
      (drop_all place sheet over))

  -- or where it begins with another byte
  pub line_other : place < length sheet → (get_or sheet place 0 ≡ get_or sheet i 0 → ⊥)
      → false ≡ is_line_of sheet i e place
  unfolding word_of word_in
  line_other low other =
      line_not sheet i e place (omega arith)
      (ap (λ w. word_of w sheet place) first_byte
      ∙ ap (λ l. word_in (get_or sheet i 0 ∷ take (e - suc i) (drop (suc i) sheet)) l place)
      (drop-cons sheet place 0 low)
      ∙ pick_false _ _ (ne_eqb _ _ other))

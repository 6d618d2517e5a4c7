-- A fault carries the line that it is found on, and that is a small number.
-- Assumes nothing.
use mathlib.Core.Bool.{Bool, true, false}
use mathlib.Core.List.{List, [], ◌∷◌, ◌++◌}
use mathlib.Core.Logic.{⊎_elim}
use mathlib.Core.Path.{◌≡◌, refl, ap, subst}
use Prim.Native.Nat.{ℕ, zero, suc, ◌+◌, ◌-◌, ◌<◌, ◌≤◌}
use native.Mathlib.Omega.{arith}
use lib.Dec.{eqb, ltb}
use lib.ListN.{length, get_or}
use Rattle.std.proofs.Common.{Option, Some, None, Result, Ok, Err}
use Rattle.parsimony.specs.Test.{both, pick}
use Rattle.sheet_cells.specs.declared.Matrix.{Matrix}
use Rattle.sheet_cells.specs.Cells.{cells_at, is_symbol, row_to, row_of, row_judge, matrix_of}
use Rattle.sheet_costs.specs.Costs.{cost_row_of, cost_judge, cost_table, cost_count, costs_of}
use Rattle.sheet_costs.proofs.CostLaws.{costs_count}
use Rattle.sheet_lines.proofs.CountLaws.{count_read}
use Rattle.sheet_lines.specs.Bytes.{bytes, text_of, every}
use Rattle.sheet_lines.specs.Line.{line_end}
use Rattle.sheet_lines.specs.Word.{word_of}
use Rattle.sheet_names.specs.Name.{is_name, is_new}
use Rattle.sheet_lines.specs.Count.{on_place, count_of}
use Rattle.sheet_lines.specs.Counting.{with_count, on_count, on_part, counting}
use Rattle.sheet_lines.specs.Fault.{fault_line}
use Rattle.sheet_lines.specs.Number.{field_of, on_number}
use Rattle.sheet_lines.specs.Section.{Item, item, fault, Section, follow, section}
use Rattle.sheet_lines.specs.declared.Fault.{Fault}
use Rattle.sheet_lines.specs.declared.Fault.TheVariants.{Sheet, Symbol}
use Rattle.sheet_names.specs.Names.{name_of, names_of}
use Rattle.sheet_names.proofs.NamesLaws.{names_count}
use Rattle.sheet_sections.specs.Sheet.{refused, on_matrix, tree_from, costs_from, columns_from, sheet_of}
use Rattle.sheet_sections.specs.declared.Sections.{Sections}

-- a line's item, or its fault on this line
abbrev On : {A : Type 0} → ℕ → Item A → Type 0
On line (item a next) = Unit {0}
On line (fault f) = fault_line f ≡ line

record OnLine {A : Type 0} (line : ℕ) (x : Item A) : Type 0 where
  on : On line x

-- what holds of every way to go on holds of what follows
all_place : {A : Type 0} (P : A → Type 0) (p : Option ℕ) (none : A) (go : ℕ → A) → P none → ((i : ℕ) → P (go i))
    → P (on_place p none go)
unfolding on_place
all_place P (Some i) none go n g = g i
all_place P None none go n g = n

all_pick : {A : Type 0} (P : A → Type 0) (b : Bool) (x y : A) → P x → P y → P (pick b x y)
unfolding pick
all_pick P true x y f g = f
all_pick P false x y f g = g

all_number : {A : Type 0} (P : A → Type 0) (p : Option (ℕ × ℕ)) (none : A) (go : ℕ → ℕ → A) → P none
    → ((n i : ℕ) → P (go n i))
    → P (on_number p none go)
unfolding on_number
all_number P (Some (n, i)) none go x g = g n i
all_number P None none go x g = x

own_fault : {A : Type 0} (line : ℕ) (f : Fault) → fault_line f ≡ line → OnLine {A = A} line (fault f)
own_fault line f e = record { on = e }

own_item : {A : Type 0} (line : ℕ) (a : A) (next : ℕ) → OnLine line (item a next)
own_item line a next = record { on = tt }

name_on : (sheet earlier : List ℕ) (at line : ℕ) → OnLine line (name_of sheet earlier at line)
unfolding name_of
name_on sheet earlier at line =
    let bad : Item ℕ = fault (Sheet line) in
    let test : ℕ → Bool = λ end. both (is_name (text_of sheet at end)) (is_new sheet earlier at) in
    all_place (OnLine line) (line_end sheet at) bad (λ end. pick (test end) (item at (end + 1)) bad)
    (own_fault line (Sheet line) refl)
    (λ end. all_pick (OnLine line) (test end) (item at (end + 1)) bad (own_item line at (end + 1))
    (own_fault line (Sheet line) refl))

row_on : (c : ℕ) (sheet earlier : List ℕ) (at line : ℕ) → OnLine line (row_judge c sheet earlier at line)
unfolding row_judge row_of row_to
row_on c sheet earlier at line =
    let bad : Item ℕ = fault (Sheet line) in
    let symbols : ℕ → Item ℕ = λ end.
    pick (every is_symbol (text_of sheet at end)) (item at (end + 1)) (fault (Symbol line)) in
    all_place (OnLine line) (line_end sheet at) bad (λ end. pick (eqb (end - at) c) (symbols end) bad)
    (own_fault line (Sheet line) refl)
    (λ end. all_pick (OnLine line) (eqb (end - at) c) (symbols end) bad
    (all_pick (OnLine line) (every is_symbol (text_of sheet at end)) (item at (end + 1)) (fault (Symbol line))
    (own_item line at (end + 1)) (own_fault line (Symbol line) refl))
    (own_fault line (Sheet line) refl))

cost_on : (sheet : List ℕ) (earlier : List (List ℕ)) (at line : ℕ) → OnLine line (cost_judge sheet earlier at line)
unfolding cost_judge cost_row_of
cost_on sheet earlier at line =
    let bad : Item (List ℕ) = fault (Sheet line) in
    let own : OnLine line bad = own_fault line (Sheet line) refl in
    let row : ℕ → ℕ → ℕ → ℕ → List ℕ = λ a b c d. a ∷ b ∷ c ∷ d ∷ [] in
    let test : ℕ → ℕ → ℕ → ℕ → Bool = λ a b c d. eqb (get_or (row a b c d) (length earlier) 0) 0 in
    let last : ℕ → ℕ → ℕ → ℕ → ℕ → Item (List ℕ) = λ a b c d next. pick (test a b c d) (item (row a b c d) next) bad in
    let fourth : ℕ → ℕ → ℕ → ℕ → Item (List ℕ) = λ a b c k. on_number (field_of 999 10 sheet k) bad (last a b c) in
    let third : ℕ → ℕ → ℕ → Item (List ℕ) = λ a b j. on_number (field_of 999 32 sheet j) bad (fourth a b) in
    let second : ℕ → ℕ → Item (List ℕ) = λ a i. on_number (field_of 999 32 sheet i) bad (third a) in
    all_number (OnLine line) (field_of 999 32 sheet at) bad second own
    (λ a i. all_number (OnLine line) (field_of 999 32 sheet i) bad (third a) own
    (λ b j. all_number (OnLine line) (field_of 999 32 sheet j) bad (fourth a b) own
    (λ c k. all_number (OnLine line) (field_of 999 10 sheet k) bad (last a b c) own
    (λ d next. all_pick (OnLine line) (test a b c d) (item (row a b c d) next) bad
    (own_item line (row a b c d) next) own))))

-- a section's fault is on one of its lines
section_on : {A : Type 0} (judge : List A → ℕ → ℕ → Item A)
    → ((before : List A) (at line : ℕ) → OnLine line (judge before at line))
    → (n at line : ℕ) (before : List A) (f : Fault) → (section judge n at line before).part ≡ Err f
    → fault_line f < line + n
unfolding section follow
section_on judge on zero at line before f h = absurd (let z : ◌≡◌ {A = ℕ} 0 1 = cc in omega arith)
section_on {A} judge on (suc n) at line before f h =
    go (judge before at line) (on before at line).on
    (λ items next g. section_on judge on n next (line + 1) items f g) h
  where
    go : (x : Item A) → On line x
        → ((items : List A) (next : ℕ) → (section judge n next (line + 1) items).part ≡ Err f
        → fault_line f < line + 1 + n)
        → (follow x before (λ items next. section judge n next (line + 1) items)).part ≡ Err f
        → fault_line f < line + suc n
    go (item a next) o rest g = let r = rest (before ++ a ∷ []) next g in omega arith
    go (fault e) o rest g = let same : e ≡ f = cc in let here = ap fault_line same in omega arith

-- a count's fault is on a line up to this one
abbrev CountOn : ℕ → Result (ℕ × ℕ) Fault → Type 0
CountOn line (Ok (n, next)) = Unit {0}
CountOn line (Err f) = fault_line f ≤ line

record CountLine (line : ℕ) (c : Result (ℕ × ℕ) Fault) : Type 0 where
  on : CountOn line c

own_line : (line : ℕ) → CountLine line (Err (Sheet line))
own_line line = record { on = omega arith }

counted_line : (line n next : ℕ) → CountLine line (Ok (n, next))
counted_line line n next = record { on = tt }

count_on : (word : List ℕ) (least most : ℕ) (sheet : List ℕ) (at line : ℕ)
    → CountLine line (count_of word least most sheet at line)
unfolding count_of
count_on word least most sheet at line =
    let bad = Err (Sheet line) in
    let last : ℕ → ℕ → Result (ℕ × ℕ) Fault = λ n next. pick (ltb n least) bad (Ok (n, next)) in
    all_place (CountLine line) (word_of word sheet at) bad (λ digits. on_number (field_of most 10 sheet digits) bad last)
    (own_line line)
    (λ digits. all_number (CountLine line) (field_of most 10 sheet digits) bad last (own_line line)
    (λ n next. all_pick (CountLine line) (ltb n least) bad (Ok (n, next)) (own_line line) (counted_line line n next)))

-- a count line's fault, or one of its section, is within the section's lines
counting_on : {A : Type 0} (line more : ℕ) (c : Result (ℕ × ℕ) Fault) (go : ℕ → ℕ → Section A) → CountOn line c
    → line ≤ more
    → ((n next : ℕ) (f : Fault) → c ≡ Ok (n, next) → (go n next).part ≡ Err f → fault_line f ≤ more)
    → CountOn more (counting c go).count
unfolding counting with_count
counting_on line more (Err f) go o h each = omega arith
counting_on line more (Ok (n, next)) go o h each = by_part (go n next).part refl
  where
    by_part : (p : Result ℕ Fault) → (go n next).part ≡ p → CountOn more (with_count n p)
    by_part (Ok i) e = tt
    by_part (Err f) e = each n next f refl e

-- a reading's fault is on a line up to this one
abbrev ReadingOn : ℕ → Result Sections Fault → Type 0
ReadingOn line (Ok s) = Unit {0}
ReadingOn line (Err f) = fault_line f ≤ line

-- the names: lines 1 to 513
names_on : (sheet : List ℕ) → CountOn 513 (names_of sheet 0 1).count
unfolding names_of
names_on sheet =
    counting_on 1 513 (count_of (bytes "names ") 1 512 sheet 0 1) (λ t next. section (name_of sheet) t next (1 + 1) [])
    (count_on (bytes "names ") 1 512 sheet 0 1).on (omega arith)
    (λ t next f counted h. let few = (count_read (bytes "names ") 1 512 sheet 0 1 t next counted).small in
    let low = section_on (name_of sheet) (name_on sheet) t next (1 + 1) [] f h in
    omega arith)

module _ (sheet : List ℕ) (t : ℕ) (few : t ≤ 512) where
  -- the count line of the costs, and the lines of the table
  cost_count_on : (at line : ℕ) → CountOn line (cost_count sheet at line)
  unfolding cost_count on_count
  cost_count_on at line =
      go (count_of (bytes "costs ") 0 4 sheet at line) (count_on (bytes "costs ") 0 4 sheet at line).on
    where
      go : (c : Result (ℕ × ℕ) Fault) → CountOn line c
          → CountOn line (on_count c Err
          (λ k next. pick (eqb k 0) (Ok (k, next)) (pick (eqb k 4) (Ok (k, next)) (Err (Sheet line)))))
      go (Ok (k, next)) o =
          (all_pick (CountLine line) (eqb k 0) (Ok (k, next))
          (pick (eqb k 4) (Ok (k, next)) (Err (Sheet line)))
          (counted_line line k next)
          (all_pick (CountLine line) (eqb k 4) (Ok (k, next)) (Err (Sheet line))
          (counted_line line k next) (own_line line))).on
      go (Err f) o = o

  table_on : (k next line : ℕ) (f : Fault) → (cost_table sheet k next line).part ≡ Err f → fault_line f < line + 4
  unfolding cost_table
  table_on zero next line f h = absurd (let z : ◌≡◌ {A = ℕ} 0 1 = cc in omega arith)
  table_on (suc k) next line f h = section_on (cost_judge sheet) (cost_on sheet) 4 next line [] f h

  costs_on : (at : ℕ) → CountOn 1031 (costs_of sheet at (t + t + 3)).count
  unfolding costs_of
  costs_on at =
      counting_on (t + t + 3) 1031 (cost_count sheet at (t + t + 3)) (λ k next. cost_table sheet k next (t + t + 3 + 1))
      (cost_count_on at (t + t + 3)) (omega arith)
      (λ k next f counted h. let low = table_on k next (t + t + 3 + 1) f h in omega arith)

  -- the count of trees
  tree_on : (costs : List (List ℕ)) (c cells k at : ℕ) → k ≤ 4
      → ReadingOn 1032 (tree_from sheet costs t c cells k at).reading
  unfolding tree_from on_count refused
  tree_on costs c cells k at most =
      go (count_of (bytes "tree ") 1 1 sheet at (t + t + 4 + k))
      (count_on (bytes "tree ") 1 1 sheet at (t + t + 4 + k)).on
    where
      go : (p : Result (ℕ × ℕ) Fault) → CountOn (t + t + 4 + k) p
          → ReadingOn 1032 (on_count p (refused costs) (λ one tree. record {
            reading = Ok (record { tips = t; columns = c; cells = cells; tree = tree; line = t + t + 5 + k });
            costs = costs;
          })).reading
      go (Ok (n, next)) o = tt
      go (Err f) o = omega arith

  costs_from_on : (c cells at : ℕ) → ReadingOn 1032 (costs_from sheet t c cells at).reading
  unfolding costs_from on_count refused
  costs_from_on c cells at = go (costs_of sheet at (t + t + 3)).count refl (costs_on at)
    where
      items : List (List ℕ)
      items = (costs_of sheet at (t + t + 3)).items

      go : (p : Result (ℕ × ℕ) Fault) → (costs_of sheet at (t + t + 3)).count ≡ p → CountOn 1031 p
          → ReadingOn 1032 (on_count p (refused items) (tree_from sheet items t c cells)).reading
      go (Ok (k, next)) e o =
          tree_on items c cells k next
          (⊎_elim (λ z. omega arith) (λ z. omega arith) (costs_count sheet at (t + t + 3) k next e))
      go (Err f) e o = omega arith

  -- the columns
  matrix_on : (at : ℕ) (f : Fault) → matrix_of t sheet at (t + 2) ≡ Err f → fault_line f ≤ 1032
  unfolding matrix_of on_count on_part
  matrix_on at f h =
      by_count (count_of (bytes "columns ") 0 65535 sheet at (t + 2))
      (count_on (bytes "columns ") 0 65535 sheet at (t + 2)).on h
    where
      by_part : (c from : ℕ) (p : Result ℕ Fault) → (section (row_judge c sheet) t from (t + 2 + 1) []).part ≡ p
          → on_part p Err (λ i. Ok (cells_at c from i)) ≡ Err f → fault_line f ≤ 1032
      by_part c from (Ok i) e g = absurd (let z : ◌≡◌ {A = ℕ} 0 1 = cc in omega arith)
      by_part c from (Err w) e g =
          let low = section_on (row_judge c sheet) (row_on c sheet) t from (t + 2 + 1) [] w e in
          let same : w ≡ f = cc in
          let here = ap fault_line same in
          omega arith

      by_count : (p : Result (ℕ × ℕ) Fault) → CountOn (t + 2) p
          → on_count p Err
          (λ c cells. on_part (section (row_judge c sheet) t cells (t + 2 + 1) []).part Err
          (λ i. Ok (cells_at c cells i)))
          ≡ Err f
          → fault_line f ≤ 1032
      by_count (Ok (c, from)) o g = by_part c from (section (row_judge c sheet) t from (t + 2 + 1) []).part refl g
      by_count (Err w) o g = let same : w ≡ f = cc in let here = ap fault_line same in omega arith

  columns_on : (at : ℕ) → ReadingOn 1032 (columns_from sheet t at).reading
  unfolding columns_from on_matrix refused
  columns_on at = go (matrix_of t sheet at (t + 2)) refl
    where
      go : (m : Result Matrix Fault) → matrix_of t sheet at (t + 2) ≡ m
          → ReadingOn 1032 (on_matrix m (refused []) (costs_from sheet t)).reading
      go (Ok m) e = costs_from_on m.columns m.cells m.next
      go (Err f) e = matrix_on at f e

-- Every fault of the sections is on a line up to 1,032.
pub fault_line_lem : (sheet : List ℕ) (f : Fault) → (sheet_of sheet).rest.reading ≡ Err f → fault_line f ≤ 1032
unfolding sheet_of on_count refused
fault_line_lem sheet f h =
    subst (ReadingOn 1032) h (go (names_of sheet 0 1).count refl (names_on sheet))
  where
    go : (p : Result (ℕ × ℕ) Fault) → (names_of sheet 0 1).count ≡ p → CountOn 513 p
        → ReadingOn 1032 (on_count p (refused []) (columns_from sheet)).reading
    go (Ok (t, next)) e o = columns_on sheet t (names_count sheet 0 1 t next e).1 next
    go (Err w) e o = omega arith

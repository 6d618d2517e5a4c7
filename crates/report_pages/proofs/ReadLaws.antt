-- A sheet that the reader has left in the lists may be printed.
-- Assumes nothing.
use mathlib.Core.List.{List}
use mathlib.Core.Path.{◌≡◌, refl, ap, ap₂, sym, ◌∙◌, subst}
use Prim.Native.Nat.{ℕ, ◌+◌, ◌*◌, ◌/◌, ◌%◌, ◌<◌, ◌≤◌}
use native.Mathlib.Omega.{arith}
use lib.ListN.{length, get_or, take, drop}
use lib.Seq.{sets, sets-eq, length-sets, take-append_seam, ext_get_or}
use Rattle.std.proofs.Common.{Result, Ok, Err}
use Rattle.sheet_costs.specs.CostRules.{TableRules, Flat}
use Rattle.sheet_lines.specs.declared.Fault.{Fault}
use Rattle.sheet_tips.specs.Nodes.{lefts, rights}
use Rattle.sheet_tree.proofs.PairSteps.{lefts_long, rights_long}
use Rattle.report_pages.specs.Page.{PrintableFrom}
use Rattle.report_pages.specs.SheetLine.{IsRead, Printable, ReadAs}
use Rattle.sheet_sections.proofs.SheetLaws.{sheet_read}
use Rattle.sheet.specs.Gives.{HoldsContents, GivesSheetFor, GivesSheet}
use Rattle.sheet.specs.Judge.{Contents, Judged, sound, faulty, judge}
use Rattle.sheet.specs.Table.{flat}
use Rattle.sheet.specs.declared.Sheet.{Sheet}
use Rattle.sheet.proofs.SoundSheet.{sound_from}
use Rattle.sheet.proofs.TableRules.{flat_is, sheet_legal}

-- a table in one list is that of its rows
pub flat_same : (table : List (List ℕ)) (costs : List ℕ) → TableRules table → Flat table costs → costs ≡ flat table
flat_same table costs rules is =
    let other = flat_is table rules in
    let p = is.size in
    let q = other.size in
    ext_get_or 0 costs (flat table) (omega arith)
    (λ i h. let x = i / 4 in
    let y = i % 4 in
    let split : x * 4 + y ≡ i = omega arith in
    let hx : x < 4 = omega arith in
    let hy : y < 4 = omega arith in
    ap (λ k. get_or costs k 0) (sym split)
    ∙ is.entry x y hx hy
    ∙ sym (other.entry x y hx hy)
    ∙ ap (λ k. get_or (flat table) k 0) split)

-- the first entries of a list are those that were put there
pub first_put : (n : ℕ) (l l' vs : List ℕ) → n ≡ length vs → l' ≡ sets l 0 vs → length vs ≤ length l → take n l' ≡ vs
first_put n l l' vs e is fits =
    ap₂ take e (is ∙ sets-eq vs l 0 (omega arith)) ∙ take-append_seam vs (drop (0 + length vs) l)

-- a sheet that has been read, as a value of its type says it
module _ (sheet : List ℕ) (s : Sheet) (costs left right : List ℕ) where
  read_as : (has : Contents) → IsRead sheet s costs left right has → ReadAs (judge sheet) s costs left right
  read_as has read =
      subst (λ j. ReadAs j s costs left right) (sym read.is)
      (read.tips, read.columns, read.cells, read.nodes, read.priced, read.lefts, read.rights)

  as_read : ReadAs (judge sheet) s costs left right → (has : Contents) × IsRead sheet s costs left right has
  as_read = by_judged (judge sheet) refl
    where
      by_judged : (j : Judged) → judge sheet ≡ j → ReadAs j s costs left right
          → (has : Contents) × IsRead sheet s costs left right has
      by_judged (sound has) is (tips, columns, cells, nodes, priced, lefts, rights) = (
        has,
        record {
          is = is;
          tips = tips;
          columns = columns;
          cells = cells;
          nodes = nodes;
          priced = priced;
          lefts = lefts;
          rights = rights;
        },
      )
      by_judged (faulty f) is none = absurd none

  -- each of its columns may be printed
  pub as_printable : ReadAs (judge sheet) s costs left right → {j : ℕ} → j < s.columns
      → Printable sheet s costs left right j
  as_printable read low =
      let (has, told) = as_read read in
      let columns = told.columns in
      record { has = has; read = told; inside = omega arith }

  -- and it may be printed from each of its columns on
  pub as_printable_from : ReadAs (judge sheet) s costs left right → {first : ℕ} → first ≤ s.columns
      → PrintableFrom sheet s costs left right first
  as_printable_from read low =
      let (has, told) = as_read read in
      let columns = told.columns in
      record { has = has; read = told; low = omega arith }

module _ (sheet : List ℕ) (s : Sheet) (answer : Result Sheet Fault) (table' : List (List ℕ)) (left right left' right' : List ℕ)
    (gives : GivesSheet (judge sheet) answer table' left right left' right') (is : answer ≡ Ok s) where
  pub read_sound : HoldsContents (judge sheet) s table' left right left' right'
  read_sound = subst (λ a. GivesSheetFor (judge sheet) a table' left right left' right') is gives.gives

  -- the tree's lists keep their length
  pub read_long : (length left' ≡ length left) × (length right' ≡ length right)
  read_long =
      let vine = read_sound.contents.vine in (
        ap length read_sound.lefts ∙ length-sets left 0 (lefts vine 0),
        ap length read_sound.rights ∙ length-sets right 0 (rights vine 0),
      )

  -- what the reader leaves is a sheet that has been read
  pub read_is : (costs : List ℕ) → length left ≡ 1023 → length right ≡ 1023 → Flat table' costs
      → IsRead sheet s costs left' right' read_sound.contents
  read_is costs ll lr flatly =
      let holds = read_sound in
      let has = holds.contents in
      let vine = has.vine in
      let from = sound_from sheet has holds.is in
      let rules : TableRules has.costs =
      subst TableRules (sym from.costs) (sheet_read sheet from.sections from.reading).rest.priced in
      let few = (sheet_legal sheet has from).size.most in
      let long_left = lefts_long vine 0 in
      let long_right = rights_long vine 0 in
      record {
        is = holds.is;
        tips = holds.tips;
        columns = holds.columns;
        cells = holds.cells;
        nodes = holds.nodes;
        priced = flat_same has.costs costs rules (subst (λ t. Flat t costs) holds.priced flatly);
        lefts = first_put s.nodes left left' (lefts vine 0) (holds.nodes ∙ sym long_left) holds.lefts (omega
            arith);
        rights = first_put s.nodes right right' (rights vine 0) (holds.nodes ∙ sym long_right) holds.rights
            (omega arith);
      }

  -- as a value of its type says it
  pub read_told : (costs : List ℕ) → length left ≡ 1023 → length right ≡ 1023 → Flat table' costs
      → ReadAs (judge sheet) s costs left' right'
  read_told costs ll lr flatly = read_as sheet s costs left' right' read_sound.contents (read_is costs ll lr flatly)

-- the fault that the reader answers with
pub read_fault : (sheet : List ℕ) (f : Fault) (answer : Result Sheet Fault) (table' : List (List ℕ))
    (left right left' right' : List ℕ)
    → GivesSheet (judge sheet) answer table' left right left' right' → answer ≡ Err f → judge sheet ≡ faulty f
read_fault sheet f answer table' left right left' right' gives is =
    subst (λ a. GivesSheetFor (judge sheet) a table' left right left' right') is gives.gives

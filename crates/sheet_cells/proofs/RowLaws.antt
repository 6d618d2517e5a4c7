-- What the line of a row is, in words: a row, and where the next line starts; or what is wrong with it.
-- Assumes nothing.
use mathlib.Core.Bool.{Bool, true, false}
use mathlib.Core.List.{List}
use mathlib.Core.Logic.{inl, inr}
use mathlib.Core.Path.{◌≡◌, refl, sym, subst, ◌∙◌}
use Prim.Native.Nat.{ℕ, ◌+◌, ◌-◌}
use native.Mathlib.Omega.{arith}
use borrow.Author.Tests.{eqb-true, eqb-false}
use lib.Dec.{eqb}
use lib.ListN.{get_or}
use Rattle.std.proofs.Common.{Option, Some, None}
use Rattle.std.specs.Option.{is_some}
use Rattle.sheet_cells.specs.Cells.{is_symbol, row_of}
use Rattle.sheet_cells.specs.IsRow.{IsRow, RowFault}
use Rattle.sheet_lines.proofs.EveryLaws.{no_test, every_told, every_not}
use Rattle.sheet_lines.proofs.LineLaws.{line_read, line_found, line_none}
use Rattle.sheet_lines.specs.Bytes.{text_of, every}
use Rattle.sheet_lines.specs.IsLine.{IsLine}
use Rattle.sheet_lines.specs.Line.{line_end}
use Rattle.sheet_lines.specs.Section.{Item, item, fault}
use Rattle.sheet_lines.specs.declared.Fault.{Fault}
use Rattle.sheet_lines.specs.declared.Fault.TheVariants.{Sheet, Symbol}
use Rattle.sheet_symbols.specs.Symbol.{symbol_of}
use Rattle.sheet_cells.proofs.CellSteps.{row_length, row_unlisted, row_whole, row_line, row_no_line}

states_told : (answer : Option ℕ) → is_some answer ≡ true → (set : ℕ) × (answer ≡ Some set)
states_told (Some set) e = (set, refl)
states_told None e = no_test e

states_not : (answer : Option ℕ) → is_some answer ≡ false → answer ≡ None
states_not (Some set) e = no_test (sym e)
states_not None e = refl

-- the test of a byte says whether it is in the code list
pub symbol_told : (byte : ℕ) → is_symbol byte ≡ true → (set : ℕ) × (symbol_of byte ≡ Some set)
unfolding is_symbol
symbol_told byte e = states_told (symbol_of byte) e

pub symbol_not : (byte : ℕ) → is_symbol byte ≡ false → symbol_of byte ≡ None
unfolding is_symbol
symbol_not byte e = states_not (symbol_of byte) e

-- what the line at a place is: a row, and the next line after it; or a fault
pub data RowIs (sheet : List ℕ) (c at line : ℕ) : Item ℕ → Type 0 where
  sound : (next : ℕ) → next ≡ at + (c + 1) → IsRow sheet c at → RowIs sheet c at line (item at next)
  wrong : (f : Fault) → RowFault sheet c at line f → RowIs sheet c at line (fault f)

module _ (sheet : List ℕ) (c at line : ℕ) where
  -- the end of a line of c bytes is c bytes on
  other_end : (end : ℕ) → IsLine sheet at end → (end - at ≡ c → ⊥) → IsLine sheet at (at + c) → ⊥
  other_end end one n two =
      let first = line_found sheet at end one in
      let second = line_found sheet at (at + c) two in
      let same : end ≡ at + c = same_end (sym first ∙ second) in
      n (omega arith)
    where
      same_end : {i j : ℕ} → Some i ≡ Some j → i ≡ j
      same_end e = cc

  pub row_is : RowIs sheet c at line (row_of c sheet at line)
  row_is = by_line (line_end sheet at) refl
    where
      by_every : (end : ℕ) → IsLine sheet at end → line_end sheet at ≡ Some end → eqb (end - at) c ≡ true → (b : Bool)
          → every is_symbol (text_of sheet at end) ≡ b → RowIs sheet c at line (row_of c sheet at line)
      by_every end whole l t true e =
          let from = whole.from in
          let inside = whole.inside in
          let size = eqb-true (end - at) c t in
          let here : end ≡ at + c = omega arith in
          subst (RowIs sheet c at line) (row_whole c sheet at line end size e ∙ row_line c sheet at line end l)
          (sound (end + 1) (omega arith)
          (record {
            line = subst (IsLine sheet at) here whole;
            listed = λ j h.
                symbol_told (get_or sheet (at + j) 0)
                (every_told is_symbol sheet end (omega arith) at e (at + j) (omega arith) (omega arith));
          }))
      by_every end whole l t false e =
          let from = whole.from in
          let inside = whole.inside in
          let size = eqb-true (end - at) c t in
          let here : end ≡ at + c = omega arith in
          let bad = every_not is_symbol sheet end (omega arith) at e in
          let j = bad.0 - at in
          let low = bad.1 in
          let high = bad.2 in
          let place : at + j ≡ bad.0 = omega arith in
          subst (RowIs sheet c at line) (row_unlisted c sheet at line end size e ∙ row_line c sheet at line end l)
          (wrong (Symbol line)
          (inr (
            refl,
            subst (IsLine sheet at) here whole,
            (j, omega arith, rw place (symbol_not (get_or sheet bad.0 0) bad.3)),
          )))

      by_length : (end : ℕ) → IsLine sheet at end → line_end sheet at ≡ Some end → (b : Bool) → eqb (end - at) c ≡ b
          → RowIs sheet c at line (row_of c sheet at line)
      by_length end whole l true t = by_every end whole l t (every is_symbol (text_of sheet at end)) refl
      by_length end whole l false t =
          subst (RowIs sheet c at line)
          (row_length c sheet at line end (eqb-false (end - at) c t) ∙ row_line c sheet at line end l)
          (wrong (Sheet line) (inl (refl, other_end end whole (eqb-false (end - at) c t))))

      by_line : (p : Option ℕ) → line_end sheet at ≡ p → RowIs sheet c at line (row_of c sheet at line)
      by_line None l =
          subst (RowIs sheet c at line) (row_no_line c sheet at line l)
          (wrong (Sheet line) (inl (refl, line_none sheet at (at + c) l)))
      by_line (Some end) l = by_length end (line_read sheet at end l) l (eqb (end - at) c) refl

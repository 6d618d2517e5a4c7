-- What the judgement of a name line says: a new name at its place, or SHEET on its line.
-- Assumes nothing.
use mathlib.Core.Bool.{Bool, true, false}
use mathlib.Core.List.{List}
use mathlib.Core.Path.{◌≡◌, refl, sym, ◌∙◌}
use Prim.Native.Nat.{ℕ}
use Rattle.std.proofs.Common.{Option, Some, None}
use Rattle.sheet_lines.proofs.Answers.{no_item, same_item, same_fault}
use Rattle.sheet_lines.specs.Bytes.{text_of}
use Rattle.sheet_lines.specs.Line.{line_end}
use Rattle.sheet_lines.specs.Section.{item, fault}
use Rattle.sheet_lines.specs.declared.Fault.{Fault}
use Rattle.sheet_lines.specs.declared.Fault.TheVariants.{Sheet}
use Rattle.sheet_names.specs.Name.{is_name, is_new}
use Rattle.sheet_names.specs.Names.{name_of}
use Rattle.sheet_names.proofs.NameSteps.{name_no_line, name_none, name_old, name_whole}

-- a name that is read
pub record NameRead (sheet earlier : List ℕ) (at place : ℕ) : Type 0 where
  pub same : place ≡ at
  pub end : ℕ
  pub ends : line_end sheet at ≡ Some end
  pub name : is_name (text_of sheet at end) ≡ true
  pub new : is_new sheet earlier at ≡ true

pub name_item : (sheet earlier : List ℕ) (at line place next : ℕ) → name_of sheet earlier at line ≡ item place next
    → NameRead sheet earlier at place
name_item sheet earlier at line place next e = by_line (line_end sheet at) refl
  where
    by_new : (end : ℕ) → line_end sheet at ≡ Some end → is_name (text_of sheet at end) ≡ true
        → (b : Bool) → is_new sheet earlier at ≡ b → NameRead sheet earlier at place
    by_new end l n false w = no_item (name_old sheet earlier at line end l n w) e
    by_new end l n true w =
        let same = same_item (name_whole sheet earlier at line end l n w) e in
        record { same = same; end = end; ends = l; name = n; new = w }

    by_name : (end : ℕ) → line_end sheet at ≡ Some end → (b : Bool) → is_name (text_of sheet at end) ≡ b
        → NameRead sheet earlier at place
    by_name end l false n = no_item (name_none sheet earlier at line end l n) e
    by_name end l true n = by_new end l n (is_new sheet earlier at) refl

    by_line : (p : Option ℕ) → line_end sheet at ≡ p → NameRead sheet earlier at place
    by_line None l = no_item (name_no_line sheet earlier at line l) e
    by_line (Some end) l = by_name end l (is_name (text_of sheet at end)) refl

-- every fault of a name is SHEET on its line
pub name_fault : (sheet earlier : List ℕ) (at line : ℕ) (f : Fault) → name_of sheet earlier at line ≡ fault f
    → f ≡ Sheet line
name_fault sheet earlier at line f e = by_line (line_end sheet at) refl
  where
    by_new : (end : ℕ) → line_end sheet at ≡ Some end → is_name (text_of sheet at end) ≡ true
        → (b : Bool) → is_new sheet earlier at ≡ b → f ≡ Sheet line
    by_new end l n false w = same_fault (name_old sheet earlier at line end l n w) e
    by_new end l n true w =
        let i = name_whole sheet earlier at line end l n w ∙ e in
        no_item refl (sym i)

    by_name : (end : ℕ) → line_end sheet at ≡ Some end → (b : Bool) → is_name (text_of sheet at end) ≡ b
        → f ≡ Sheet line
    by_name end l false n = same_fault (name_none sheet earlier at line end l n) e
    by_name end l true n = by_new end l n (is_new sheet earlier at) refl

    by_line : (p : Option ℕ) → line_end sheet at ≡ p → f ≡ Sheet line
    by_line None l = same_fault (name_no_line sheet earlier at line l) e
    by_line (Some end) l = by_name end l (is_name (text_of sheet at end)) refl

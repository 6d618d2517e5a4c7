-- What a line is: the end that is read is the end of a line, every line is read, and where none is read there is none.
-- Assumes nothing.
use mathlib.Core.Bool.{Bool, true, false}
use mathlib.Core.List.{List}
use mathlib.Core.Path.{◌≡◌, refl, sym, subst, ◌∙◌}
use Prim.Native.Nat.{ℕ, zero, suc, ◌+◌, ◌<◌, ◌≤◌}
use native.Mathlib.Omega.{arith}
use lib.ListN.{length, get_or}
use Rattle.std.proofs.Common.{Option, Some, None}
use Rattle.sheet_lines.specs.Bytes.{within}
use Rattle.sheet_lines.specs.IsLine.{IsLine}
use Rattle.sheet_lines.specs.Line.{line_end}
use Rattle.parsimony.proofs.Order.{by_lt, by_eq}
use Rattle.sheet_lines.proofs.ByteLaws.{within_told, within_yes}
use Rattle.sheet_lines.proofs.LineSteps.{line_stop, line_on, line_bad, line_past}

never : {A : Type 0} (p : Option ℕ) (end : ℕ) → None ≡ p → p ≡ Some end → A
never p end n e = let z : ◌≡◌ {A = ℕ} 0 1 = cc in absurd (omega arith)

same_end : (p : Option ℕ) (i end : ℕ) → Some i ≡ p → p ≡ Some end → i ≡ end
same_end p i end a e = cc

-- a byte from 32 to 126 before a line makes a line
longer : (sheet : List ℕ) (i end : ℕ) → within 32 126 (get_or sheet i 0) ≡ true → IsLine sheet (i + 1) end
    → IsLine sheet i end
longer sheet i end e line =
    record {
      from = omega (arith, line.from);
      inside = line.inside;
      stop = line.stop;
      plain = λ k low high.
          by_eq k i (λ same. rw same (within_told 32 126 (get_or sheet i 0) e))
          (λ other. line.plain k (omega arith) high);
    }

alone : (sheet : List ℕ) (i end : ℕ) → i < length sheet → get_or sheet i 0 ≡ 10 → i ≡ end → IsLine sheet i end
alone sheet i end h e same =
    subst (IsLine sheet i) same
    (record { from = omega arith; inside = h; stop = e; plain = λ k low high. absurd (omega arith) })

read_by : (n : ℕ) (sheet : List ℕ) (i end : ℕ) → length sheet ≤ i + n → line_end sheet i ≡ Some end → IsLine sheet i end
read_by zero sheet i end room e = never _ end (line_past sheet i (omega arith)) e
read_by (suc n) sheet i end room e =
    by_lt i (length sheet)
    (λ h. by_eq (get_or sheet i 0) 10
    (λ ten. alone sheet i end h ten (same_end _ i end (line_stop sheet i h ten) e))
    (λ other. by_test h other (read_by n sheet (i + 1) end (omega arith)) (within 32 126 (get_or sheet i 0)) refl))
    (λ past. never _ end (line_past sheet i past) e)
  where
    by_test : i < length sheet → (get_or sheet i 0 ≡ 10 → ⊥)
        → (line_end sheet (i + 1) ≡ Some end → IsLine sheet (i + 1) end)
        → (b : Bool) → within 32 126 (get_or sheet i 0) ≡ b → IsLine sheet i end
    by_test h other rest true t = longer sheet i end t (rest (line_on sheet i h other t ∙ e))
    by_test h other rest false t = never _ end (line_bad sheet i h other t) e

-- the end that is read is the end of a line
pub line_read : (sheet : List ℕ) (at end : ℕ) → line_end sheet at ≡ Some end → IsLine sheet at end
line_read sheet at end e = read_by (length sheet) sheet at end (omega arith) e

-- so it is not before the place, and within the sheet
pub line_from : (sheet : List ℕ) (at end : ℕ) → line_end sheet at ≡ Some end → at ≤ end
line_from sheet at end e = (line_read sheet at end e).from

pub line_inside : (sheet : List ℕ) (at end : ℕ) → line_end sheet at ≡ Some end → end < length sheet
line_inside sheet at end e = (line_read sheet at end e).inside

found_by : (n : ℕ) (sheet : List ℕ) (i end : ℕ) → end ≤ i + n → IsLine sheet i end → line_end sheet i ≡ Some end
found_by zero sheet i end room line =
    let same : i ≡ end = omega (arith, line.from) in
    subst (λ (k : ℕ). line_end sheet k ≡ Some end) (sym same) (sym (line_stop sheet end line.inside line.stop))
found_by (suc n) sheet i end room line =
    by_eq i end
    (λ same.
    subst (λ (k : ℕ). line_end sheet k ≡ Some end) (sym same) (sym (line_stop sheet end line.inside line.stop)))
    (λ other.
    let low : i < end = omega (arith, line.from) in
    let plain = line.plain i (omega arith) low in
    let inside = line.inside in
    sym (line_on sheet i (omega arith) (λ ten. omega arith) (sym (within_yes 32 126 _ plain.0 plain.1)))
    ∙ found_by n sheet (i + 1) end (omega arith)
    (record {
      from = omega arith;
      inside = inside;
      stop = line.stop;
      plain = λ k h l. line.plain k (omega arith) l;
    }))

-- every line is read
pub line_found : (sheet : List ℕ) (at end : ℕ) → IsLine sheet at end → line_end sheet at ≡ Some end
line_found sheet at end line = found_by end sheet at end (omega arith) line

-- where no end is read there is no line
pub line_none : (sheet : List ℕ) (at end : ℕ) → line_end sheet at ≡ None → IsLine sheet at end → ⊥
line_none sheet at end e line = never _ end (sym e) (line_found sheet at end line)

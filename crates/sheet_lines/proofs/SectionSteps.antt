-- A section, line by line.
-- Assumes nothing.
use mathlib.Core.List.{List, [], ◌∷◌, ◌++◌}
use mathlib.Core.Path.{◌≡◌}
use Prim.Native.Nat.{ℕ, suc, ◌+◌, ◌-◌, ◌<◌, ◌≤◌}
use native.Mathlib.Omega.{arith}
use Rattle.std.proofs.Common.{Ok, Err}
use Rattle.sheet_lines.specs.Section.{Item, item, fault, follow, section}
use Rattle.sheet_lines.specs.declared.Fault.{Fault}

module _ {A : Type 0} (judge : List A → ℕ → ℕ → Item A) (t i at line : ℕ) (before : List A) where
  -- a line with an item: the section goes on
  pub section_on : (a : A) (next : ℕ) → i < t → judge before at line ≡ item a next
      → section judge (t - (i + 1)) next (line + 1) (before ++ a ∷ []) ≡ section judge (t - i) at line before
  unfolding section follow
  section_on a next h e =
      let more : t - i ≡ suc (t - (i + 1)) = omega arith in
      rw (more, e)

  -- a line with a fault: the section is over
  pub section_stop : (f : Fault) → i < t → judge before at line ≡ fault f
      → record { items = before; part = Err f } ≡ section judge (t - i) at line before
  unfolding section follow
  section_stop f h e =
      let more : t - i ≡ suc (t - (i + 1)) = omega arith in
      rw (more, e)

  -- no line is left
  pub section_end : t ≤ i → record { items = before; part = Ok at } ≡ section judge (t - i) at line before
  unfolding section
  section_end h =
      let none : t - i ≡ 0 = omega arith in
      rw none

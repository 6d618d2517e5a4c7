-- Size, as the code needs it: no finite sum is barred or wraps, and the rows of a whole are at most 1,020,978.
-- Assumes nothing.
use mathlib.Core.Logic.{⊎_elim}
use mathlib.Core.Path.{◌≡◌}
use Prim.Native.Nat.{ℕ, ◌+◌, ◌*◌, ◌≤◌, ◌<◌}
use native.Mathlib.Nat.{mul-le-mul_right}
use native.Mathlib.Omega.{arith}
use Rattle.parsimony.specs.Allowed.{most_handed}
use Rattle.parsimony.specs.Barred.{barred}
use Rattle.parsimony.specs.Column.{Column}
use Rattle.parsimony.specs.Row.{up, row}
use Rattle.parsimony.specs.Sound.{Sound}
use Rattle.parsimony.specs.Tree.{tip, two, Has}
use Rattle.parsimony.proofs.RowLaws.{row_tip}
use Rattle.parsimony.proofs.Size.{
  bound_child,
  bound_root,
  bound_fits,
  bound_edges,
  row_bound,
  row_range,
  rows_balance,
}

module _ (most : ℕ) (P : Column) (sound : Sound most P) where
  -- an entry that is not barred is below the barred entry
  pub entry_fits : (v x : ℕ) → v ≤ P.last → x < P.states → (row P v x ≡ barred → ⊥) → row P v x < barred
  entry_fits v x h hx open_entry =
      let r = bound_root P.last most P.kids sound.tree v h in
      let f = bound_fits most P sound in
      ⊎_elim (λ small. omega arith) (λ bar. absurd (open_entry bar.1)) (row_range most P sound v x h hx)

  -- so is the sum of a change and such an entry of a child
  pub through_fits : (p u x y : ℕ) → p ≤ P.last → Has u (P.kids p) → x < P.states → y < P.states
      → (row P u y ≡ barred → ⊥) → P.cost x y + row P u y < barred
  through_fits p u x y h c hx hy open_entry =
      let below = sound.tree.below h c in
      let q = bound_child P.last most P.kids sound.tree p u h c in
      let r = bound_root P.last most P.kids sound.tree p h in
      let f = bound_fits most P sound in
      let cheap = sound.cheap x y hx hy in
      ⊎_elim (λ small. omega arith) (λ bar. absurd (open_entry bar.1)) (row_range most P sound u y (omega arith) hy)

  -- and the sum of both children's least is the inner node's entry, and below the barred entry
  pub inner_fits : (v a b x : ℕ) → v ≤ P.last → P.kids v ≡ two a b → x < P.states
      → up P (row P a) x + up P (row P b) x < barred
  inner_fits v a b x h e hx =
      let i = (rows_balance most P sound).inner v a b x h e hx in
      let s = row_bound most P sound v a b x h e hx in
      let r = bound_root P.last most P.kids sound.tree v h in
      let f = bound_fits most P sound in
      omega arith

-- the rows of inner nodes of a whole without handed rows are at most 1,020,978
pub whole_most : (P : Column) → Sound 0 P → (v a b x : ℕ) → v ≤ P.last → P.kids v ≡ two a b → x < P.states
    → row P v x ≤ most_handed
whole_most P sound v a b x h e hx =
    let s = row_bound 0 P sound v a b x h e hx in
    let r = bound_root P.last 0 P.kids sound.tree v h in
    let t = bound_edges P.last P.kids sound.tree in
    let n = sound.nodes in
    let l : P.last ≤ 1022 = omega arith in
    let m : P.last * 999 ≤ 1022 * 999 = mul-le-mul_right 999 l in
    omega arith

-- and those of its tips are 0 or barred
pub whole_tip : (P : Column) → Sound 0 P → (v x : ℕ) → v ≤ P.last → P.kids v ≡ tip → x < P.states
    → (row P v x ≡ barred → ⊥) → row P v x ≡ 0
whole_tip P sound v x h e hx open_entry =
    let r = row_tip P sound.tree v x h e in
    ⊎_elim (λ small. omega arith) (λ bar. absurd (open_entry (omega arith))) (sound.range v x h e hx)

-- Laws of the row room: rows written one node after the other, and that the rows of a sound column are calm.
-- Assumes nothing.
use Rattle.std.proofs.Common.{List, ◌≡◌, ℕ, suc, ◌+◌, ◌*◌, ◌≤◌, ◌<◌, length, get_or, sym, ◌∙◌, ap, take, drop, ◌++◌, ◌-◌, subst, ⊎_elim, length-append, length-drop, length-take-le, get_or-take, get_or-drop, get_or-append-add, arith}
use Rattle.std.proofs.lemmas.List.{get_or_append_left, get_or-append_right}
use native.Mathlib.Nat.{mul-le-mul}
use Rattle.parsimony.specs.Column.{Column}
use Rattle.parsimony.specs.Row.{row}
use Rattle.parsimony.specs.Sound.{Sound}
use Rattle.parsimony.specs.Written.{Written, entries, Below}
use Rattle.parsimony.proofs.ColumnLaws.{place}
use Rattle.parsimony.proofs.Order.{by_eq}
use Rattle.parsimony.proofs.Size.{bound_root, bound_rough, row_range}
use Rattle.parsimony.proofs.SliceLaws.{row_inside}
use Rattle.promises.specs.RowRoom.{HoldsRows}
use Rattle.row_step.specs.Lane.{Within, Calm, RowIs}

-- the rows R of the nodes below v were written, and nothing else
abbrev pub RowsTo : (ℕ → ℕ → ℕ) → ℕ → ℕ → List ℕ → List ℕ → Type 0
RowsTo R s v = Written (Below (v * s)) (HoldsRows R v s)

-- an entry of a row of a sound column is barred or below 2^30
pub rows_calm : (most : ℕ) (P : Column) → Sound most P → (v x : ℕ) → v ≤ P.last → x < P.states
    → Within 1073741823 (row P v x)
rows_calm most P sound v x h k free =
    let root = bound_root P.last most P.kids sound.tree v h in
    let rough = bound_rough P.last most P.kids sound.tree in
    let nodes : suc P.last ≤ 1023 = sound.nodes in
    let each : most + 1998 ≤ 1022976 = let little = sound.little in omega arith in
    let product : suc P.last * (most + 1998) ≤ 1023 * 1022976 = mul-le-mul nodes each in
    ⊎_elim (λ small. omega arith) (λ bar. absurd (free bar.1)) (row_range most P sound v x h k)

-- a row that is a node's is calm
pub row_calm : (most : ℕ) (P : Column) → Sound most P → (v : ℕ) (l : List ℕ) → v ≤ P.last → length l ≡ P.states
    → RowIs (row P v) l → Calm l
row_calm most P sound v l h size is =
    record {
      calm = λ y k. subst (Within 1073741823) (sym (is y k)) (rows_calm most P sound v y h (omega arith));
    }

-- a row room that is taken apart at the rows of node v, and put together with the node's row written
module _ (now own : List ℕ) (s v : ℕ) (room : v * s + s ≤ length now) (size : length own ≡ s) where
  abbrev room' : List ℕ
  room' = take (v * s) now ++ (own ++ drop s (drop (v * s) now))

  front : length (take (v * s) now) ≡ v * s
  front = length-take-le (v * s) now (omega arith)

  rest : length (drop s (drop (v * s) now)) + (v * s + s) ≡ length now
  rest = let whole = length-drop s (drop (v * s) now) in let later = length-drop (v * s) now in omega arith

  joined_long : length room' ≡ length now
  joined_long =
      let whole = length-append (take (v * s) now) (own ++ drop s (drop (v * s) now)) in
      let tail = length-append own (drop s (drop (v * s) now)) in
      let e = front in
      let f = rest in
      omega arith

  -- the rows below it are as they were,
  joined_below : (i : ℕ) → i < v * s → get_or room' i 0 ≡ get_or now i 0
  joined_below i h =
      get_or_append_left (take (v * s) now) (own ++ drop s (drop (v * s) now)) 0 i (let e = front in omega arith)
      ∙ get_or-take (v * s) now i 0 h

  -- its row is the one that is written,
  joined_own : (x : ℕ) → x < s → get_or room' (v * s + x) 0 ≡ get_or own x 0
  joined_own x h =
      ap (λ n. get_or room' (n + x) 0) (sym front)
      ∙ get_or-append-add (take (v * s) now) (own ++ drop s (drop (v * s) now)) x 0
      ∙ get_or_append_left own (drop s (drop (v * s) now)) 0 x (omega arith)

  -- and what stands past it is as it was
  joined_past : (i : ℕ) → v * s + s ≤ i → get_or room' i 0 ≡ get_or now i 0
  joined_past i h =
      get_or-append_right (take (v * s) now) (own ++ drop s (drop (v * s) now)) (v * s) i 0 front (omega arith)
      ∙ get_or-append_right own (drop s (drop (v * s) now)) s (i - v * s) 0 size (omega arith)
      ∙ get_or-drop s (drop (v * s) now) (i - v * s - s) 0
      ∙ get_or-drop (v * s) now (s + (i - v * s - s)) 0
      ∙ ap (λ k. get_or now k 0) (omega arith)

  -- so one node's row more is written, and nothing else
  pub room_more : (R : ℕ → ℕ → ℕ) (before : List ℕ) → RowsTo R s v before now → RowIs (R v) own
      → RowsTo R s (v + 1) before room'
  room_more R before room is =
      let last = row_inside v (v + 1) s (omega arith) in
      record {
        right = λ u x h k. by_eq u v
            (λ e. subst (λ u. entries room' (u * s + x) ≡ R u x) (sym e) (joined_own x k ∙ is x (omega arith)))
            (λ ne. let h' : u < v = omega arith in
            let under = place u x v s h' k in
            joined_below (u * s + x) under ∙ room.right u x h' k);
        long = joined_long ∙ room.long;
        kept = λ i none.
            joined_past i (by_le i none) ∙ room.kept i (λ here. none (omega arith));
      }
    where
      by_le : (i : ℕ) → (i < (v + 1) * s → ⊥) → v * s + s ≤ i
      by_le i none = let same : (v + 1) * s ≡ v * s + s = omega arith in omega arith

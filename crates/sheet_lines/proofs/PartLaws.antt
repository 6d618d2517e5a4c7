-- The first entries of a list, lent as a part of it.
-- Assumes nothing.
use mathlib.Core.List.{List}
use mathlib.Core.Path.{◌≡◌, ap, ◌∙◌}
use Prim.Native.Nat.{ℕ, ◌-◌, ◌≤◌}
use native.Mathlib.Omega.{arith}
use lib.ListN.{length, drop, take}
use lib.Seq.{length-take-le}

-- the part up to place t is the first t entries
pub part_first : (l : List ℕ) (t : ℕ) → take (t - 0) (drop 0 l) ≡ take t l
part_first l t = let same : t - 0 ≡ t = omega arith in ap (λ k. take k l) same

-- and t entries long
pub part_size : (l : List ℕ) (t : ℕ) → t ≤ length l → length (take (t - 0) (drop 0 l)) ≡ t
part_size l t h = ap length (part_first l t) ∙ length-take-le t l h

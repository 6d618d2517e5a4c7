-- Whether a node is a tip, as a number, and the count of the tips at one node more.
-- Assumes nothing.
use Rattle.std.specs.Prelude.{Bool, true, false, not, ◌&&◌}
use Rattle.std.specs.Int.{from_bool}
use mathlib.Core.List.{List}
use mathlib.Core.Path.{◌≡◌, refl, ap, ◌∙◌}
use Prim.Native.Nat.{ℕ, ◌+◌, ◌-◌, ◌*◌, ◌≤◌}
use native.Mathlib.Numerals.{add-one}
use native.Mathlib.Omega.{arith}
use lib.Dec.{eqb, ltb}
use lib.ListN.{get_or}
use Rattle.parsimony.specs.Sum.{sum}
use Rattle.parsimony.specs.Table.{Kind, symbol, handed, Node, leaf, inner, leaf_at, node_at, is_tip, tips}
use Rattle.parsimony.specs.Test.{pick}
use Rattle.parsimony.proofs.Sums.{sum_suc, sum_zero, sum_le, sum_scale}
use Rattle.parsimony.proofs.TipLaws.{sum_ones}

-- the two tests of the entries of node v: both hold at a symbol tip, the first alone at a handed tip
pub tip_entries : (left right : List ℕ) (v : ℕ)
    → (from_bool (eqb (get_or left v 0) 65535 && ltb (get_or right v 0) 32768) ≡ is_tip symbol (node_at left right v))
    × (from_bool (eqb (get_or left v 0) 65535 && not (ltb (get_or right v 0) 32768))
    ≡ is_tip handed (node_at left right v))
unfolding node_at leaf_at pick
tip_entries left right v = by_tests (eqb (get_or left v 0) 65535) (ltb (get_or right v 0) 32768)
  where
    by : Bool → Bool → Node
    by b d =
        pick b (pick d (leaf symbol (get_or right v 0)) (leaf handed (get_or right v 0 - 32768)))
        (inner (get_or left v 0) (get_or right v 0))

    by_tests : (b d : Bool) → (from_bool (b && d) ≡ is_tip symbol (by b d))
        × (from_bool (b && not d) ≡ is_tip handed (by b d))
    by_tests true true = (refl, refl)
    by_tests true false = (refl, refl)
    by_tests false true = (refl, refl)
    by_tests false false = (refl, refl)

-- a sum over one number more
pub sum_next : (f : ℕ → ℕ) (v : ℕ) → sum f (v + 1) ≡ sum f v + f v
sum_next f v = rw add-one (sum_suc f v)

-- a sum whose terms are at most m
pub sum_most : (m : ℕ) (f : ℕ → ℕ) (n : ℕ) → ((i : ℕ) → f i ≤ m) → sum f n ≤ m * n
sum_most m f n h =
    let bound = sum_le f (λ i. m * 1) n (λ i k. let here = h i in omega arith) in
    let all : sum (λ i. m * 1) n ≡ m * n = sum_scale m (λ i. 1) n ∙ ap (λ x. m * x) (sum_ones n) in
    omega arith

-- a node is a tip of a kind at most once
tip_le : (k : Kind) (x : Node) → is_tip k x ≤ 1
tip_le symbol (leaf symbol r) = omega arith
tip_le symbol (leaf handed r) = omega arith
tip_le handed (leaf symbol r) = omega arith
tip_le handed (leaf handed r) = omega arith
tip_le k (inner a b) = omega arith

module _ (node : ℕ → Node) where
  pub tips_none : (k : Kind) → tips k node 0 ≡ 0
  unfolding tips
  tips_none k = sum_zero (λ p. is_tip k (node p))

  tips_next : (k : Kind) (v : ℕ) → tips k node (v + 1) ≡ tips k node v + is_tip k (node v)
  unfolding tips
  tips_next k v = sum_next (λ p. is_tip k (node p)) v

  -- no more tips than nodes
  pub tips_most : (k : Kind) (n : ℕ) → tips k node n ≤ n
  unfolding tips
  tips_most k n = let bound = sum_most 1 (λ p. is_tip k (node p)) n (λ p. tip_le k (node p)) in omega arith

  -- a count of the tips goes on with one node more, and is at most the number of nodes counted
  pub tips_step : (k : Kind) (v count r : ℕ) → count ≡ tips k node v → r ≡ is_tip k (node v)
      → (count + r ≡ tips k node (v + 1)) × (count + r ≤ v + 1)
  tips_step k v count r c i =
      let next = tips_next k v in
      let most = tips_most k (v + 1) in
      (omega arith, omega arith)

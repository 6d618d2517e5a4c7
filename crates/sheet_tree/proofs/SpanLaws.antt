-- Sums over the nodes of a tree: a pair's is that of its two trees and its own node.
-- Assumes nothing.
use mathlib.Core.Path.{◌≡◌, refl, ap, ◌∙◌}
use Prim.Native.Nat.{ℕ, zero, suc, ◌+◌}
use native.Mathlib.Omega.{arith}
use Rattle.parsimony.specs.Sum.{sum}
use Rattle.parsimony.proofs.Sums.{sum_zero, sum_suc, sum_same}
use Rattle.sheet_tips.specs.Vine.{Vine, tip, pair, vine_nodes}

pub size_tip : (r : ℕ) → vine_nodes (tip r) ≡ 1
unfolding vine_nodes
size_tip r = refl

pub size_pair : (a b : Vine) → vine_nodes (pair a b) ≡ suc (vine_nodes a + vine_nodes b)
unfolding vine_nodes
size_pair a b = refl

-- the sum of f over len nodes from n on
abbrev pub over : (ℕ → ℕ) → ℕ → ℕ → ℕ
over f n len = sum (λ i. f (n + i)) len

pub over_add : (f : ℕ → ℕ) (n a b : ℕ) → over f n (a + b) ≡ over f n a + over f (n + a) b
over_add f n a zero =
    let z = sum_zero (λ i. f (n + a + i)) in
    let same : a + 0 ≡ a = omega arith in
    ap (sum (λ i. f (n + i))) same ∙ omega arith
over_add f n a (suc b) =
    let next : a + suc b ≡ suc (a + b) = omega arith in
    let step = sum_suc (λ i. f (n + i)) (a + b) in
    let more = sum_suc (λ i. f (n + a + i)) b in
    let rest = over_add f n a b in
    let here : f (n + (a + b)) ≡ f (n + a + b) = ap f (omega arith) in
    ap (sum (λ i. f (n + i))) next ∙ omega arith

-- over a pair: its two trees and its own node
pub over_pair : (f : ℕ → ℕ) (n : ℕ) (a b : Vine)
    → over f n (vine_nodes (pair a b))
    ≡ over f n (vine_nodes a) + over f (n + vine_nodes a) (vine_nodes b) + f (n + vine_nodes a + vine_nodes b)
unfolding vine_nodes
over_pair f n a b =
    let step = sum_suc (λ i. f (n + i)) (vine_nodes a + vine_nodes b) in
    let both = over_add f n (vine_nodes a) (vine_nodes b) in
    let here : f (n + (vine_nodes a + vine_nodes b)) ≡ f (n + vine_nodes a + vine_nodes b) = ap f (omega arith) in
    omega arith

pub over_one : (f : ℕ → ℕ) (n r : ℕ) → over f n (vine_nodes (tip r)) ≡ f n
unfolding vine_nodes
over_one f n r =
    let step = sum_suc (λ i. f (n + i)) 0 in
    let none = sum_zero (λ i. f (n + i)) in
    let here : f (n + 0) ≡ f n = ap f (omega arith) in
    omega arith

-- from node 0 on it is the sum over all
pub over_zero : (f : ℕ → ℕ) (len : ℕ) → sum f len ≡ over f 0 len
over_zero f len = sum_same f (λ i. f (0 + i)) len (λ i h. ap f (omega arith))

-- The definitions on tiny inputs, by computation: a wrong definition is found here.
-- Assumes nothing.
use mathlib.Core.List.{List, [], ◌∷◌}
use mathlib.Core.Path.{◌≡◌, refl}
use Prim.Native.Nat.{ℕ, zero, suc, ◌<◌}
use native.Mathlib.Omega.{arith}
use lib.ListN.{get_or}
use Rattle.parsimony.specs.Barred.{barred, plus}
use Rattle.parsimony.specs.Column.{cost_at, cell_at, handed_at, cell_entry}
use Rattle.parsimony.specs.Counting.{meet, change}
use Rattle.parsimony.specs.Fault.{Keeps, LowestFault}
use Rattle.parsimony.specs.Least.{low, least}
use Rattle.parsimony.specs.StateSet.{bit, one, union, common, size}
use Rattle.parsimony.specs.Table.{symbol, handed, Node, leaf, inner, node_at, tips, row_uses, child_uses}
use Rattle.parsimony.specs.Tree.{uses}

-- the numbers 5, 3, 3, 9
four : ℕ → ℕ
four x = get_or (5 ∷ 3 ∷ 3 ∷ 9 ∷ []) x 0

-- of two least the lower is taken
low_of_two : low four 4 ≡ 1
unfolding low four
low_of_two = refl

least_of_four : least four 4 ≡ 3
unfolding least four
least_of_four = refl

-- a barred term bars, first or second; other sums are sums
barred_first : plus barred 3 ≡ barred
unfolding plus
barred_first = refl

barred_second : plus 3 barred ≡ barred
unfolding plus
barred_second = refl

plain_sum : plus 999 1020978 ≡ 1021977
unfolding plus
plain_sum = refl

-- the set ACG is 7: A is in it, T is not; it has three members
in_set : bit 7 0 ≡ 1
unfolding bit
in_set = refl

not_in_set : bit 7 3 ≡ 0
unfolding bit
not_in_set = refl

set_size : size 4 7 ≡ 3
unfolding size
set_size = refl

set_one : one 3 ≡ 8
unfolding one
set_one = refl

set_union : union 6 1 ≡ 7
set_union = refl

set_common : common 6 3 ≡ 2
set_common = refl

-- CG and A have nothing in common: their union, and a change; ACG and A have A, and none
meet_none : meet 6 1 ≡ 7
unfolding meet
meet_none = refl

change_one : change 6 1 ≡ 1
unfolding change
change_one = refl

meet_some : meet 7 1 ≡ 1
unfolding meet
meet_some = refl

change_none : change 7 1 ≡ 0
unfolding change
change_none = refl

-- a symbol tip's row
entry_in : cell_entry 10 3 ≡ 0
unfolding cell_entry
entry_in = refl

entry_out : cell_entry 10 2 ≡ barred
unfolding cell_entry
entry_out = refl

-- the table of ((a,b),c); with c a handed tip
left : List ℕ
left = 65535 ∷ 65535 ∷ 0 ∷ 65535 ∷ 2 ∷ []

right : List ℕ
right = 0 ∷ 1 ∷ 1 ∷ 32768 ∷ 3 ∷ []

node_symbol : node_at left right 1 ≡ leaf symbol 1
unfolding node_at left right
node_symbol = refl

node_handed : node_at left right 3 ≡ leaf handed 0
unfolding node_at left right
node_handed = refl

node_inner : node_at left right 4 ≡ inner 2 3
unfolding node_at left right
node_inner = refl

two_symbol_tips : tips symbol (node_at left right) 5 ≡ 2
unfolding tips node_at left right
two_symbol_tips = refl

one_handed_tip : tips handed (node_at left right) 5 ≡ 1
unfolding tips node_at left right
one_handed_tip = refl

-- a cost's row is the parent's state; a cell is at row times columns plus column; a handed entry at column, row, state
cost_at_lem : cost_at 2 (0 ∷ 1 ∷ 3 ∷ 0 ∷ []) 1 0 ≡ 3
unfolding cost_at
cost_at_lem = refl

cell_at_lem : cell_at 2 (1 ∷ 2 ∷ 4 ∷ 8 ∷ []) 1 0 ≡ 2
unfolding cell_at
cell_at_lem = refl

handed_at_lem : handed_at 2 2 (0 ∷ 1 ∷ 2 ∷ 3 ∷ 4 ∷ 5 ∷ 6 ∷ 7 ∷ []) 1 0 1 ≡ 5
unfolding handed_at
handed_at_lem = refl

-- three nodes of which 2 has 0 twice: node 1 is nobody's child, and node 2 is at fault for its equal children, so the
-- lowest fault is node 1
twice : ℕ → Node
twice v = get_or (leaf symbol 0 ∷ leaf symbol 1 ∷ inner 0 0 ∷ []) v (leaf symbol 0)

twice_unused : child_uses twice 3 1 ≡ 0
unfolding uses twice
twice_unused = refl

twice_fault : LowestFault 3 twice 1
unfolding uses twice tips row_uses
twice_fault =
    record {
      within = omega arith;
      breaks = λ k. let used = k.used (omega arith) in omega (arith, twice_unused);
      first = below_one;
    }
  where
    below_one : (u : ℕ) → u < 1 → Keeps 3 twice u
    below_one zero h = record { entries = (omega arith, refl); used = λ k. omega arith }
    below_one (suc u) h = absurd (omega arith)

-- two tips with the same row: the higher is at fault
shared : ℕ → Node
shared v = get_or (leaf symbol 0 ∷ leaf symbol 0 ∷ inner 0 1 ∷ []) v (leaf symbol 0)

shared_fault : LowestFault 3 shared 1
unfolding uses shared tips row_uses
shared_fault =
    record {
      within = omega arith;
      breaks = λ k. let e = k.entries.1 in omega arith;
      first = below_one;
    }
  where
    below_one : (u : ℕ) → u < 1 → Keeps 3 shared u
    below_one zero h = record { entries = (omega arith, refl); used = λ k. omega arith }
    below_one (suc u) h = absurd (omega arith)

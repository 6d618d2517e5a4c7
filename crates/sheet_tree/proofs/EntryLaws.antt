-- Lists that have the entries of a tree have its nodes.
-- Assumes nothing.
use mathlib.Core.List.{List, [], ◌∷◌, ◌++◌}
use mathlib.Core.Path.{◌≡◌, ap, sym, ◌∙◌}
use Prim.Native.Nat.{ℕ, ◌+◌, ◌-◌, ◌≤◌, ◌<◌}
use native.Mathlib.Omega.{arith}
use lib.ListN.{length, get_or, get_or-append}
use lib.Seq.{get_or-append-add}
use Rattle.parsimony.specs.Table.{node_at}
use Rattle.parsimony.proofs.NodeLaws.{node_symbol, node_inner}
use Rattle.sheet_tips.specs.Nodes.{lefts, rights}
use Rattle.sheet_tips.specs.Vine.{Vine, tip, pair, vine_nodes}
use Rattle.sheet_tree.proofs.ChildLaws.{Stood}
use Rattle.sheet_tree.proofs.PairSteps.{size_some, lefts_long, rights_long}
use Rattle.sheet_tree.proofs.SpanLaws.{size_tip, size_pair}

-- every row of a tree's names is below t
abbrev pub Rows : ℕ → Vine → Type 0
Rows t (tip r) = r < t
Rows t (pair a b) = Rows t a × Rows t b

-- entry i of one list and then another
at_first : (xs ys : List ℕ) (i : ℕ) → i < length xs → get_or (xs ++ ys) i 0 ≡ get_or xs i 0
at_first xs ys i h = get_or-append xs ys 0 i h

at_second : (xs ys : List ℕ) (k i : ℕ) → k ≡ length xs → get_or (xs ++ ys) (k + i) 0 ≡ get_or ys i 0
at_second xs ys k i e = ap (λ z. get_or (xs ++ ys) (z + i) 0) e ∙ get_or-append-add xs ys i 0

-- lists that have the entries of a tree from n on have its nodes
module _ (left right : List ℕ) where
  pub stood_lists : (v : Vine) (n t : ℕ) → Rows t v → t ≤ 512 → n + vine_nodes v ≤ 65535
      → ((i : ℕ) → i < vine_nodes v → get_or left (n + i) 0 ≡ get_or (lefts v n) i 0)
      → ((i : ℕ) → i < vine_nodes v → get_or right (n + i) 0 ≡ get_or (rights v n) i 0)
      → Stood (node_at left right) v n
  unfolding lefts rights
  stood_lists (tip r) n t row few room l s =
      let one = size_tip r in
      let same : n + 0 ≡ n = omega arith in
      node_symbol left right n r (omega arith) (ap (λ k. get_or left k 0) (sym same) ∙ l 0 (omega arith))
      (ap (λ k. get_or right k 0) (sym same) ∙ s 0 (omega arith))
  stood_lists (pair a b) n t (ra, rb) few room l s =
      let whole = size_pair a b in
      let sa = size_some a in
      let la = lefts_long a n in
      let lb = lefts_long b (n + vine_nodes a) in
      let pa = rights_long a n in
      let pb = rights_long b (n + vine_nodes a) in
      let ll = lefts b (n + vine_nodes a) ++ (n + vine_nodes a - 1) ∷ [] in
      let rr = rights b (n + vine_nodes a) ++ (n + vine_nodes a + vine_nodes b - 1) ∷ [] in (
        stood_lists a n t ra few (omega arith)
            (λ i h. l i (omega arith) ∙ at_first (lefts a n) ll i (omega arith))
            (λ i h. s i (omega arith) ∙ at_first (rights a n) rr i (omega arith)),
        (
          stood_lists b (n + vine_nodes a) t rb few (omega arith)
              (λ i h. (let place : n + vine_nodes a + i ≡ n + (vine_nodes a + i) = omega arith in
              ap (λ k. get_or left k 0) place)
              ∙ l (vine_nodes a + i) (omega arith)
              ∙ at_second (lefts a n) ll (vine_nodes a) i (sym la)
              ∙ at_first (lefts b (n + vine_nodes a)) ((n + vine_nodes a - 1) ∷ []) i (omega arith))
              (λ i h. (let place : n + vine_nodes a + i ≡ n + (vine_nodes a + i) = omega arith in
              ap (λ k. get_or right k 0) place)
              ∙ s (vine_nodes a + i) (omega arith)
              ∙ at_second (rights a n) rr (vine_nodes a) i (sym pa)
              ∙ at_first (rights b (n + vine_nodes a)) ((n + vine_nodes a + vine_nodes b - 1) ∷ []) i (omega arith)),
          node_inner left right (n + vine_nodes a + vine_nodes b) (n + vine_nodes a - 1)
              (n + vine_nodes a + vine_nodes b - 1) (λ e. omega arith)
              ((let place : n + vine_nodes a + vine_nodes b ≡ n + (vine_nodes a + (vine_nodes b + 0)) = omega arith in
              ap (λ k. get_or left k 0) place)
              ∙ l (vine_nodes a + (vine_nodes b + 0)) (omega arith)
              ∙ at_second (lefts a n) ll (vine_nodes a) (vine_nodes b + 0) (sym la)
              ∙ at_second (lefts b (n + vine_nodes a)) ((n + vine_nodes a - 1) ∷ []) (vine_nodes b) 0 (sym lb))
              ((let place : n + vine_nodes a + vine_nodes b ≡ n + (vine_nodes a + (vine_nodes b + 0)) = omega arith in
              ap (λ k. get_or right k 0) place)
              ∙ s (vine_nodes a + (vine_nodes b + 0)) (omega arith)
              ∙ at_second (rights a n) rr (vine_nodes a) (vine_nodes b + 0) (sym pa)
              ∙ at_second (rights b (n + vine_nodes a)) ((n + vine_nodes a + vine_nodes b - 1) ∷ []) (vine_nodes b) 0
              (sym pb)),
        ),
      )

-- The walk from the root down, node by node from the last to the first, for any values that children get: labels, sets.
-- Assumes nothing.
use mathlib.Core.List.{List}
use mathlib.Core.Path.{◌≡◌, refl, ap, sym, ◌∙◌, subst}
use Prim.Native.Nat.{ℕ, ◌-◌, ◌≤◌, ◌<◌}
use native.Mathlib.Omega.{arith}
use lib.ListN.{length, get_or, set, length-set}
use lib.Seq.{get_or-set_same, get_or-set_other}
use Rattle.parsimony.specs.Tree.{Kids, Has, Rooted}
use Rattle.parsimony.specs.Written.{Written, Below}
use Rattle.parsimony.proofs.Order.{by_eq, by_lt}
use Rattle.parsimony.proofs.TreeLaws.{parent_unique, parent_has}
use Rattle.choice_steps.specs.Marks.{WalkedDown}
use Rattle.walk_down.specs.Pass.{PassedOn}

-- The walk over n nodes, from node n - 1 to node v, in a list e in which the root had its start: the root still has it,
-- and the children of each node from v on have their values.
pub record DescentTo (n : ℕ) (kids : ℕ → Kids) (give : ℕ → ℕ → ℕ) (start v : ℕ) (e : ℕ → ℕ) : Type 0 where
  pub root : e (n - 1) ≡ start
  pub edge : {p u : ℕ} → v ≤ p → p < n → Has u (kids p) → e u ≡ give u (e p)

-- and nothing past the nodes was written
abbrev pub Descending : ℕ → (ℕ → Kids) → (ℕ → ℕ → ℕ) → ℕ → ℕ → List ℕ → List ℕ → Type 0
Descending n kids give start v = Written (Below n) (DescentTo n kids give start v)

-- at first the root alone has its value
pub descending_start : (n : ℕ) (kids : ℕ → Kids) (give : ℕ → ℕ → ℕ) (start y : ℕ) (before : List ℕ)
    → 0 < n → n ≤ length before → y ≡ start
    → Descending n kids give start n (set before (n - 1) y) (set before (n - 1) y)
descending_start n kids give start y before some room e =
    record {
      right = record {
        root = get_or-set_same before (n - 1) y 0 (omega arith) ∙ e;
        edge = λ h k c. absurd (omega arith);
      };
      long = refl;
      kept = λ i none. refl;
    }

-- at last every node has its value
pub descending_done : {n : ℕ} {kids : ℕ → Kids} {give : ℕ → ℕ → ℕ} {start v : ℕ} {now : List ℕ}
    (y : ℕ) (before : List ℕ) → 0 < n → v ≤ 0 → Descending n kids give start v (set before (n - 1) y) now
    → WalkedDown n kids give start before now
descending_done {n = n} y before some done d =
    record {
      right = record { root = d.right.root; edge = λ h c. d.right.edge (omega arith) (omega arith) c };
      long = d.long ∙ length-set before (n - 1) y;
      kept = λ i none. d.kept i none ∙ get_or-set_other before (n - 1) i y 0 (λ e. none (omega arith));
    }

module _ {n : ℕ} {kids : ℕ → Kids} {give : ℕ → ℕ → ℕ} {start v x : ℕ} {before now : List ℕ}
    (rooted : Rooted (n - 1) kids) (some : 0 < v) (met : v ≤ n) (own : x ≡ get_or now (v - 1) 0)
    (d : Descending n kids give start v before now) where
  -- passing its value x on takes the walk past node v - 1
  pub descending_step : {next : List ℕ} → PassedOn (kids (v - 1)) give x now next
      → Descending n kids give start (v - 1) before next
  descending_step {next} passed =
      record {
        right = record {
          root = kept (n - 1) (omega arith) ∙ d.right.root;
          edge = λ {p} {u} h k c. by_eq p (v - 1) (λ e. here p u e c) (λ ne. above p u (omega arith) k c);
        };
        long = passed.long ∙ d.long;
        kept = λ i none. kept i (let past : n ≤ i = omega arith in omega arith) ∙ d.kept i none;
      }
    where
      kept : (i : ℕ) → v - 1 ≤ i → get_or next i 0 ≡ get_or now i 0
      kept i h = passed.kept i (λ c. let b = rooted.below (omega arith) c in omega arith)

      here : (p u : ℕ) → p ≡ v - 1 → Has u (kids p) → get_or next u 0 ≡ give u (get_or next p 0)
      here p u e c =
          passed.right.child (subst (λ q. Has u (kids q)) e c)
          ∙ ap (give u) (own ∙ ap (λ q. get_or now q 0) (sym e) ∙ sym (kept p (omega arith)))

      above : (p u : ℕ) → v ≤ p → p < n → Has u (kids p) → get_or next u 0 ≡ give u (get_or next p 0)
      above p u h k c =
          passed.kept u
          (λ o. let same = parent_unique (n - 1) kids rooted p (v - 1) u (omega arith) (omega arith) c o in omega arith)
          ∙ d.right.edge h k c
          ∙ ap (give u) (sym (kept p (omega arith)))

  -- what holds of the start and of every value given holds of the value of node v - 1
  pub descending_keeps : (P : ℕ → Type 0) → P start → ((u x : ℕ) → P (give u x)) → P x
  descending_keeps P first gives =
      by_lt (v - 1) (n - 1)
      (λ below. let (p, hp, c) = parent_has (n - 1) kids rooted (v - 1) below in
      let b = rooted.below hp c in
      subst P (sym (own ∙ d.right.edge (omega arith) (omega arith) c)) (gives (v - 1) (get_or now p 0)))
      (λ top. let e : v - 1 ≡ n - 1 = omega arith in
      subst P (sym (own ∙ ap (λ q. get_or now q 0) e ∙ d.right.root)) first)

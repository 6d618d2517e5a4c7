-- Passing on: a tip passes nothing, an inner node a value to each of its children.
-- Assumes nothing.
use mathlib.Core.List.{List, map}
use mathlib.Core.Logic.{inl, inr, ⊎_elim}
use mathlib.Core.Path.{◌≡◌, refl, sym, ap, ◌∙◌, subst}
use Prim.Native.Nat.{ℕ, ◌+◌, ◌*◌, ◌<◌}
use native.Mathlib.Omega.{arith}
use lib.ListN.{length, get_or, set, length-set}
use lib.Seq.{get_or-set_same, get_or-set_other, map-set}
use Rattle.std.proofs.Math.ListN.{get_or-map}
use Rattle.std.proofs.lemmas.Grind.{get_or_default_zero}
use Rattle.std.proofs.lemmas.List.{length-map}
use Rattle.parsimony.specs.Allowed.{CostRules}
use Rattle.parsimony.specs.Table.{Kind, Node, Legal, leaf, inner, kids_of, node_at}
use Rattle.parsimony.proofs.LegalLaws.{legal_below}
use Rattle.parsimony.proofs.Order.{by_eq}
use Rattle.parsimony.specs.Column.{cost_at}
use Rattle.parsimony.specs.Written.{entries}
use Rattle.promises.specs.Input.{Input, Start}
use Rattle.row_step.specs.Lane.{RowIs}
use Rattle.choice_steps.specs.Marks.{Passing, MarkLaws}
use Rattle.choice_steps.specs.Marks.{row_of, gives}
use Rattle.walk_down.specs.Pass.{PassedOn}

-- a table has a state
pub costs_state : {s : ℕ} {costs : List ℕ} → CostRules s costs → 0 < s
costs_state rules = let fewest = rules.fewest in omega arith

-- an inner node's children are nodes
pub kids_inside : {left right : List ℕ} {v a b : ℕ} → Legal left right → v < length left → inner a b ≡ node_at left right v
    → (a < length left) × (b < length left)
kids_inside legal there node = let (below_a, below_b) = legal_below legal there node in (omega arith, omega arith)

-- a tip leaves the list as it is
pub passed_leaf : {node : Node} {give : ℕ → ℕ → ℕ} {x r : ℕ} {l : List ℕ} (k : Kind) → leaf k r ≡ node
    → PassedOn (kids_of node) give x l l
passed_leaf {give = give} {x} {l = l} k e =
    subst (λ node. PassedOn (kids_of node) give x l l) e
    (record { right = record { child = λ h. absurd h }; long = refl; kept = λ i h. refl })

-- an inner node stores both children's values
pub passed_inner : {node : Node} (give : ℕ → ℕ → ℕ) (a b x y z : ℕ) (l : List ℕ) → inner a b ≡ node
    → a < length l → b < length l → y ≡ give a x → z ≡ give b x → PassedOn (kids_of node) give x l (set (set l a y) b z)
passed_inner give a b x y z l e ha hb ey ez =
    subst (λ node. PassedOn (kids_of node) give x l (set (set l a y) b z)) e
    (record {
      right = record { child = λ {u} h. by_eq u b (at_b u) (λ ne. ⊎_elim (at_a u ne) (λ e. absurd (ne e)) h) };
      long = length-set (set l a y) b z ∙ length-set l a y;
      kept = λ i h. get_or-set_other (set l a y) b i z 0 (λ e. h (inr e)) ∙ get_or-set_other l a i y 0 (λ e. h (inl e));
    })
  where
    at_b : (u : ℕ) → u ≡ b → get_or (set (set l a y) b z) u 0 ≡ give u x
    at_b u e =
        subst (λ k. get_or (set (set l a y) b z) k 0 ≡ give k x) (sym e)
        (get_or-set_same (set l a y) b z 0 (simp length-set hb) ∙ ez)

    at_a : (u : ℕ) → (u ≡ b → ⊥) → u ≡ a → get_or (set (set l a y) b z) u 0 ≡ give u x
    at_a u ne e =
        get_or-set_other (set l a y) b u z 0 ne
        ∙ subst (λ k. get_or (set l a y) k 0 ≡ give k x) (sym e) (get_or-set_same l a y 0 ha ∙ ey)

-- what a mark passes on by a child's row is what the child gets by its row among the rows
pub passed_is : {Fits : ℕ → ℕ → Type 0} {free : (ℕ → ℕ) → ℕ → ℕ} {pass : Passing}
    {May : Input → ℕ → Start → Type 0} {Output : Input → ℕ → Start → List ℕ → List ℕ → Type 0}
    → MarkLaws Fits free pass May Output
    → (I : Input) (rows row : List ℕ) (u x : ℕ) → 0 < I.s → length row ≡ I.s
    → RowIs (λ y. get_or rows (u * I.s + y) 0) row
    → pass I.s (cost_at I.s I.costs) (entries row) x ≡ gives pass I rows u x
passed_is laws I rows row u x some size is =
    laws.pass_same I.s (cost_at I.s I.costs) (entries row) (row_of I.s rows u) x some (λ y h. is y (omega arith))

-- a list of marks as numbers, after one of them was written,
pub mark_set : {M : Type 0} (number : M → ℕ) (marks : List M) (i : ℕ) (y : M)
    → map number (set marks i y) ≡ set (map number marks) i (number y)
mark_set number marks i y = map-set number marks i y

-- and what is read of it
pub mark_read : {M : Type 0} (number : M → ℕ) (marks : List M) (i : ℕ) (y : M) → i < length marks
    → y ≡ get_or marks i y → number y ≡ get_or (map number marks) i 0
mark_read number marks i y h is =
    ap number is
    ∙ sym (get_or-map number marks i y)
    ∙ get_or_default_zero (map number marks) i (number y) (let long = length-map marks number in omega arith)

-- a list of marks as numbers, after two of them were written
pub numbers_set : {M : Type 0} (number : M → ℕ) (marks : List M) (a b : ℕ) (y z : M)
    → set (set (map number marks) a (number y)) b (number z) ≡ map number (set (set marks a y) b z)
numbers_set number marks a b y z =
    ap (λ l. set l b (number z)) (sym (map-set number marks a y)) ∙ sym (map-set number (set marks a y) b z)

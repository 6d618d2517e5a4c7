-- A column has one labelling from a start, a node one set, and a state one entry.
-- Assumes nothing.
use mathlib.Core.Path.{◌≡◌, ap, sym, ◌∙◌, subst}
use Prim.Native.Nat.{ℕ, ◌≤◌, ◌<◌}
use native.Mathlib.Omega.{arith}
use Rattle.parsimony.specs.Barred.{barred}
use Rattle.parsimony.specs.Column.{Column}
use Rattle.parsimony.specs.Row.{row, through}
use Rattle.parsimony.specs.Tie.{TakesTie}
use Rattle.parsimony.specs.Tree.{Rooted}
use Rattle.parsimony.proofs.LeastLaws.{lowest_least_unique}
use Rattle.parsimony.proofs.Order.{by_lt, by_eq, downward}
use Rattle.parsimony.proofs.StateSetLaws.{set_same}
use Rattle.parsimony.proofs.TieLaws.{takes_unique}
use Rattle.parsimony.proofs.TreeLaws.{parent_has}
use Rattle.promises.specs.Results.{StartLabels, IsLabelling, IsSet, IsEntry}
use Rattle.promises.specs.Input.{Start}
use Rattle.std.specs.Prelude.{None, Some}

-- two labellings from a start have the same root
root_unique : (P : Column) (start : Start) (l m : ℕ → ℕ) → StartLabels P start l → StartLabels P start m
    → l P.last ≡ m P.last
root_unique P None l m f g =
    lowest_least_unique (row P P.last) P.states (l P.last) (m P.last) f.root g.root
root_unique P (Some x) l m f g = f.root ∙ sym g.root

-- and, in a tree, the same state at every node
pub label_unique : (P : Column) → Rooted P.last P.kids → (start : Start) (l m : ℕ → ℕ) → IsLabelling P start l
    → IsLabelling P start m → (v : ℕ) → v ≤ P.last → l v ≡ m v
label_unique P tree start l m f g = downward P.last _ go
  where
    go : (v : ℕ) → v ≤ P.last → ((w : ℕ) → v < w → w ≤ P.last → l w ≡ m w) → l v ≡ m v
    go v h higher =
        by_lt v P.last
        (λ below. let (p, hp, c) = parent_has P.last P.kids tree v below in
        let same = higher p (tree.below hp c) hp in
        takes_unique (through P (row P v) (l p)) P.states (l p) (l v) (m v) (f.children p v hp c)
        (subst (λ x. TakesTie (through P (row P v) x) P.states x (m v)) (sym same) (g.children p v hp c)))
        (λ top. let e : v ≡ P.last = omega arith in
        ap l e ∙ root_unique P start l m f.least g.least ∙ ap m (sym e))

-- a node has one set
pub set_unique : (P : Column) (start : Start) (v w z : ℕ) → IsSet P start v w → IsSet P start v z → w ≡ z
set_unique P start v w z f g =
    set_same P.states w z f.within g.within
    (λ y h. ((λ m. (g.members y).1 ((f.members y).0 m)), (λ m. (f.members y).1 ((g.members y).0 m))))

-- a state has one entry
pub entry_unique : (P : Column) (x d e : ℕ) → IsEntry P x d → IsEntry P x e → d ≡ e
entry_unique P x d e f g =
    by_eq d barred
    (λ bar. by_eq e barred (λ same. bar ∙ sym same)
    (λ ne. let (l, from, c) = g.reached ne in absurd (f.shut bar l from.agrees from.root)))
    (λ nd. let (l, from, c) = f.reached nd in
    by_eq e barred (λ bar. absurd (g.shut bar l from.agrees from.root))
    (λ ne. let (m, to, k) = g.reached ne in
    let low = from.least m to.agrees to.root in
    let high = to.least l from.agrees from.root in
    omega arith))

-- Laws of a visit: the marks at one node more, and that the marks tell whether a node keeps the rules.
-- Assumes nothing.
use mathlib.Core.Bool.{Bool, true, false}
use mathlib.Core.List.{List}
use mathlib.Core.Path.{◌≡◌, refl, sym, ◌∙◌, subst}
use Prim.Native.Nat.{ℕ, ◌+◌, ◌≤◌, ◌<◌}
use native.Mathlib.Omega.{arith}
use lib.ListN.{get_or}
use Rattle.parsimony.specs.Fault.{KeepsEntries}
use Rattle.parsimony.specs.Table.{Kind, symbol, handed, Node, leaf, inner, kids_of, names, tips, row_uses, child_uses}
use Rattle.parsimony.specs.Test.{at}
use Rattle.parsimony.specs.Tree.{each}
use Rattle.tree_nodes.proofs.NodeLaws.{tips_most}
use Rattle.tree_uses.specs.Marks.{MarksAre, Most, Raised, Took}
use Rattle.tree_uses.proofs.UseSteps.{rows_none, uses_none}
use Rattle.tree_uses.proofs.MarkLaws.{
  raised_none,
  counted_same,
  children_low,
  rows_low,
  children_counted,
  rows_counted,
}
use Rattle.tree_test.specs.Visit.{for_kind, Surveyed, Marked, ToVisit, VisitedBy, Visited}

-- The entries of a node with number v keep their rules, by the marks of the lower nodes' uses: seen for children, rows
-- for the matrix rows, of which there are t, and given for the handed rows, of which there are h.
abbrev MarksKeep : ℕ → ℕ → ℕ → List ℕ → List ℕ → List ℕ → Node → Type 0
MarksKeep v t h seen rows given (leaf k r) = (r < for_kind k t h) × (get_or (for_kind k rows given) r 0 ≡ 0)
MarksKeep v t h seen rows given (inner a b) =
    (a < v) × (b < v) × (a ≡ b → ⊥) × (get_or seen a 0 ≡ 0) × (get_or seen b 0 ≡ 0)

-- what holds of both kinds holds of each
by_kind : (P : Kind → Type 0) → P symbol → P handed → (k : Kind) → P k
by_kind P a b symbol = a
by_kind P a b handed = b

-- a survey of n nodes
pub surveyed : {n : ℕ} {node : ℕ → Node} {t h : ℕ} → n ≤ 1023 → t ≡ tips symbol node n → h ≡ tips handed node n
    → Surveyed n node t h
surveyed {n} {node} {t} {h} m a b = record { most = m; kinds = by_kind (λ k. for_kind k t h ≡ tips k node n) a b }

-- marks of no nodes
pub marked_none : (node : ℕ → Node) (seen rows given : List ℕ) → MarksAre (λ w. 0) seen → MarksAre (λ w. 0) rows
    → MarksAre (λ w. 0) given → Marked node 0 seen rows given
marked_none node seen rows given a b c =
    record {
      children = counted_same _ _ seen a (uses_none node);
      kinds = by_kind (λ k. MarksAre (row_uses k node 0) (for_kind k rows given))
          (counted_same _ _ rows b (rows_none node symbol))
          (counted_same _ _ given c (rows_none node handed));
    }

-- the marks of one node more, x with number v
pub marked_next : {node : ℕ → Node} {v : ℕ} {x : Node} {seen rows given seen' rows' given' : List ℕ} → x ≡ node v
    → Marked node v seen rows given → Raised (λ w. each (at w 1) (kids_of x)) seen seen'
    → Raised (λ w. names symbol w x) rows rows' → Raised (λ w. names handed w x) given given'
    → Marked node (v + 1) seen' rows' given'
marked_next {node} {v} {x} {rows = rows} {given} {rows' = rows'} {given'} e m a b c =
    record {
      children = children_counted node v x e _ _ m.children a;
      kinds = by_kind (λ k. MarksAre (row_uses k node (v + 1)) (for_kind k rows' given'))
          (rows_counted node v x e symbol rows rows' (m.kinds symbol) b)
          (rows_counted node v x e handed given given' (m.kinds handed) c);
    }

-- what the answer to a visit says, once it is known to be d
pub visited_as : (d : Bool) {n : ℕ} {node : ℕ → Node} {v : ℕ} {seen rows given : List ℕ} {b : Bool}
    → Visited n node v seen rows given b → b ≡ d → VisitedBy n node v seen rows given d
visited_as d {n} {node} {v} {seen} {rows} {given} h e = subst (VisitedBy n node v seen rows given) e h.visited

module _ {n : ℕ} {node : ℕ → Node} {v t h : ℕ} {seen rows given : List ℕ}
    (here : ToVisit n node v t h seen rows given) where
  -- the marks have an entry for each node and row that the rules allow
  pub marks_room : (v ≤ 1023) × ((k : Kind) → for_kind k t h ≤ 1023)
  marks_room = (
    omega (arith, here.within, here.survey.most),
    λ k. let same = here.survey.kinds k in
        let few = tips_most node k n in
        omega (arith, here.survey.most),
  )

  -- the marks are far from the most that an entry holds
  pub seen_room : Most 65533 seen
  seen_room = children_low node here.marks.children (omega arith)

  pub rows_room_lem : (k : Kind) → Most 65534 (for_kind k rows given)
  rows_room_lem k = rows_low node k (here.marks.kinds k) (omega arith)

  -- the mark of a row whose number is below the number of tips of its kind
  row_mark : (k : Kind) (r : ℕ) → r < tips k node n → get_or (for_kind k rows given) r 0 ≡ row_uses k node v r
  row_mark k r i = let most = tips_most node k n in (here.marks.kinds k).entry r (omega arith)

  -- the mark of a lower node
  child_mark : (a : ℕ) → a < v → get_or seen a 0 ≡ child_uses node v a
  child_mark a i = here.marks.children.entry a (omega arith)

  -- what the marks tell of a node's entries holds
  marks_entries : (x : Node) → MarksKeep v t h seen rows given x → KeepsEntries n node v x
  marks_entries (leaf k r) (i, z) =
      let low = subst (λ m. r < m) (here.survey.kinds k) i in
      (low, sym (row_mark k r low) ∙ z)
  marks_entries (inner a b) (i, j, ne, y, z) = (i, j, ne, sym (child_mark a i) ∙ y, sym (child_mark b j) ∙ z)

  -- and what holds is what they tell
  entries_marks : (x : Node) → KeepsEntries n node v x → MarksKeep v t h seen rows given x
  entries_marks (leaf k r) (i, z) = (subst (λ m. r < m) (sym (here.survey.kinds k)) i, row_mark k r i ∙ z)
  entries_marks (inner a b) (i, j, ne, y, z) = (i, j, ne, child_mark a i ∙ y, child_mark b j ∙ z)

  -- a visit of node v, which is x, from what the marks tell and what is added to them
  visit_yes : {x : Node} {seen' rows' given' : List ℕ} → x ≡ node v → MarksKeep v t h seen rows given x
      → Raised (λ w. each (at w 1) (kids_of x)) seen seen' → Raised (λ w. names symbol w x) rows rows'
      → Raised (λ w. names handed w x) given given' → Visited n node v seen' rows' given' true
  visit_yes {x} e m a b c =
      record {
        visited = (
          subst (KeepsEntries n node v) e (marks_entries x m),
          marked_next e here.marks a b c,
        );
      }

  visit_no : {x : Node} → x ≡ node v → (MarksKeep v t h seen rows given x → ⊥) → Visited n node v seen rows given false
  visit_no {x} e m =
      record { visited = (λ k. m (entries_marks x (subst (KeepsEntries n node v) (sym e) k)), here.marks) }

  -- the visit of a tip of kind k, whose row is taken if it is free
  pub visit_tip : (k : Kind) {r : ℕ} {out : List ℕ} {b : Bool} → leaf k r ≡ node v
      → Took ((r < for_kind k t h) × (get_or (for_kind k rows given) r 0 ≡ 0)) (λ w. at w 1 r) (for_kind k rows given) out b
      → Visited n node v seen (for_kind k out rows) (for_kind k given out) b
  visit_tip symbol {b = true} e took =
      visit_yes e took.took.0 (raised_none _ _ (λ w i. refl)) took.took.1 (raised_none _ _ (λ w i. refl))
  visit_tip handed {b = true} e took =
      visit_yes e took.took.0 (raised_none _ _ (λ w i. refl)) (raised_none _ _ (λ w i. refl)) took.took.1
  visit_tip symbol {b = false} e took =
      subst (λ l. Visited n node v seen l given false) (sym took.took.1) (visit_no e took.took.0)
  visit_tip handed {b = false} e took =
      subst (λ l. Visited n node v seen rows l false) (sym took.took.1) (visit_no e took.took.0)

  -- the visit of an inner node, whose children are taken if they are free
  pub visit_inner : {a b : ℕ} {out : List ℕ} {d : Bool} → inner a b ≡ node v
      → Took ((a < v) × (b < v) × (a ≡ b → ⊥) × (get_or seen a 0 ≡ 0) × (get_or seen b 0 ≡ 0))
      (λ w. at w 1 a + at w 1 b) seen out d → Visited n node v out rows given d
  visit_inner {d = true} e took =
      visit_yes e took.took.0 took.took.1 (raised_none _ _ (λ w i. refl)) (raised_none _ _ (λ w i. refl))
  visit_inner {d = false} e took =
      subst (λ l. Visited n node v l rows given false) (sym took.took.1) (visit_no e took.took.0)

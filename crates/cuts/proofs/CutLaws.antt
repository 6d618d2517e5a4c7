-- The part and the rest of a cut stand as trees.
-- Assumes nothing.
use mathlib.Core.Logic.{inl, inr}
use mathlib.Core.Path.{◌≡◌, refl, ap, sym, ◌∙◌, subst}
use Prim.Native.Nat.{ℕ, suc, ◌-◌, ◌≤◌, ◌<◌}
use native.Mathlib.Omega.{arith}
use borrow.Author.Tests.{eq-eqb, ne_eqb}
use Rattle.parsimony.specs.Column.{column_of}
use Rattle.parsimony.specs.Row.{row}
use Rattle.parsimony.specs.Table.{symbol, handed, Node, leaf, inner, kids_of, kids_at, TreeRules}
use Rattle.parsimony.specs.Test.{at}
use Rattle.parsimony.specs.Tree.{Has, Rooted, Descent}
use Rattle.parsimony.proofs.NodeLaws.{leaf_inner}
use Rattle.parsimony.proofs.Order.{by_lt, by_eq, pick_true, pick_false, at_other, downward}
use Rattle.parsimony.proofs.RowLaws.{row_tip}
use Rattle.parsimony.proofs.ShapeLaws.{rules_rooted}
use Rattle.parsimony.proofs.TreeLaws.{parent_has, descend_meets}
use Rattle.promises.specs.CallRules.{Allowed}
use Rattle.promises.specs.Input.{Input, nodes, node_in, column}
use Rattle.promises.proofs.TableLaws.{table_sound, table_node}
use Rattle.cuts.specs.Cut.{CutAt, pass_mark, branch, in_part, in_rest}
use Rattle.cuts.specs.Piece.{Choice}
use Rattle.cuts.proofs.KeptLaws.{Stands}

marked_own : (v mark : ℕ) → pass_mark v v mark ≡ 1
unfolding pass_mark
marked_own v mark = pick_true 1 mark (eq-eqb v v refl)

marked_other : (v u mark : ℕ) → (u ≡ v → ⊥) → pass_mark v u mark ≡ mark
unfolding pass_mark
marked_other v u mark ne = pick_false 1 mark (ne_eqb u v ne)

module _ (I : Input) (table : Allowed I) (v : ℕ) (cut : CutAt I v) where
  abbrev n : ℕ
  n = nodes I

  abbrev last : ℕ
  last = nodes I - 1

  tree : Rooted last (kids_at I.left I.right)
  tree =
      let some = table_node I table in
      let whole : suc last ≡ n = omega arith in
      rules_rooted last (node_in I) (subst (λ k. TreeRules k (node_in I)) (sym whole) table.legal.tree)

  down : Descent last (kids_at I.left I.right) (pass_mark v) (at v 1 last) (branch I v)
  unfolding branch
  down = descend_meets last (kids_at I.left I.right) tree (pass_mark v) (at v 1 last)

  -- the mark of a child under a marked parent
  branch_child : (p u : ℕ) → p ≤ last → Has u (kids_of (node_in I p)) → branch I v p ≡ 1 → branch I v u ≡ 1
  branch_child p u h c marked_parent =
      by_eq u v (λ e. down.edge h c ∙ ap (λ w. pass_mark v w (branch I v p)) e ∙ marked_own v (branch I v p))
      (λ ne. down.edge h c ∙ marked_other v u (branch I v p) ne ∙ marked_parent)

  -- and under one that is not marked
  branch_free : (p u : ℕ) → p ≤ last → Has u (kids_of (node_in I p)) → (u ≡ v → ⊥) → branch I v u ≡ branch I v p
  branch_free p u h c ne = down.edge h c ∙ marked_other v u (branch I v p) ne

  -- v has the mark
  pub branch_own : branch I v v ≡ 1
  branch_own =
      let inside = cut.inside in
      let (p, hp, c) = parent_has last (kids_at I.left I.right) tree v (omega arith) in
      down.edge hp c ∙ marked_own v (branch I v p)

  -- the root has not
  branch_root : branch I v last ≡ 0
  branch_root = down.root ∙ at_other v 1 last (λ e. let inside = cut.inside in omega arith)

  -- a mark is 1 or 0, and no node above v has it
  branch_marks : (u : ℕ) → u ≤ last → (branch I v u ≤ 1) × (branch I v u ≡ 1 → u ≤ v)
  branch_marks = downward last _ go
    where
      go : (u : ℕ) → u ≤ last → ((w : ℕ) → u < w → w ≤ last → (branch I v w ≤ 1) × (branch I v w ≡ 1 → w ≤ v))
          → (branch I v u ≤ 1) × (branch I v u ≡ 1 → u ≤ v)
      go u h higher =
          by_lt u last
          (λ low. let (p, hp, c) = parent_has last (kids_at I.left I.right) tree u low in
          let below = tree.below hp c in
          let (most, least) = higher p below hp in
          by_eq u v
          (λ e. let one = ap (branch I v) e ∙ branch_own in (omega arith, λ k. omega arith))
          (λ ne. let same = branch_free p u hp c ne in
          (omega arith, λ k. let lower = least (sym same ∙ k) in omega arith)))
          (λ top. let e : branch I v u ≡ 0 = ap (branch I v) (omega arith) ∙ branch_root in
          (omega arith, λ k. absurd (omega arith)))

  -- the row of a handed tip is its own
  tip_row : (j u k x : ℕ) → j < I.c → u < n → node_in I u ≡ leaf handed k → (column I j).entry u x ≡ row (column I j) u x
  unfolding column_of
  tip_row j u k x hj h e =
      sym (row_tip (column I j) (table_sound I table j hj).tree u x (omega arith) (ap kids_of e))

  -- The part stands as a tree with root v.
  pub part_stands : Stands I (in_part I v) v
  part_stands =
      let inside = cut.inside in
      record {
        marks = record { most = λ u h. (branch_marks u (omega arith)).0 };
        inside = omega arith;
        kept = branch_own;
        most = λ u h k. (branch_marks u (omega arith)).1 k;
        kids = λ u a b h k e. (
          e,
          branch_child u a (omega arith) (subst (λ x. Has a (kids_of x)) (sym e) (inl refl)) k,
          branch_child u b (omega arith) (subst (λ x. Has b (kids_of x)) (sym e) (inr refl)) k,
        );
        tips = λ u r h k e. e;
        parent = λ u low k. let (p, hp, c) = parent_has last (kids_at I.left I.right) tree u (omega arith) in
            (p, omega arith, sym (branch_free p u hp c (λ e. omega arith)) ∙ k, c);
        rows = λ j u k x hj h ku e hx. tip_row j u k x hj h e;
      }

  module _ (up : ℕ → ℕ → ℕ) (sent : (j x : ℕ) → j < I.c → x < I.s → up j x ≡ row (column I j) v x) where
    abbrev K : Choice
    K = in_rest I v up

    keep_own : K.keep v ≡ 1
    keep_own = pick_true 1 (1 - branch I v v) (eq-eqb v v refl)

    keep_other : (u : ℕ) → (u ≡ v → ⊥) → K.keep u ≡ 1 - branch I v u
    keep_other u ne = pick_false 1 (1 - branch I v u) (ne_eqb u v ne)

    node_own : K.node v ≡ leaf handed 0
    node_own = pick_true (leaf handed 0) (node_in I v) (eq-eqb v v refl)

    node_other : (u : ℕ) → (u ≡ v → ⊥) → K.node u ≡ node_in I u
    node_other u ne = pick_false (leaf handed 0) (node_in I u) (ne_eqb u v ne)

    -- a kept inner node is not v, and has no mark
    rest_inner : (u : ℕ) (x : Node) → K.keep u ≡ 1 → K.node u ≡ x → (x ≡ leaf handed 0 → ⊥)
        → (u ≡ v → ⊥) × (node_in I u ≡ x) × (branch I v u ≡ 0)
    rest_inner u x k e ne =
        let other : u ≡ v → ⊥ = λ p. ne (sym e ∙ ap K.node p ∙ node_own) in
        let mark = keep_other u other in
        (other, sym (node_other u other) ∙ e, omega arith)

    -- a child of a node without a mark is kept
    rest_child : (p u : ℕ) → p ≤ last → Has u (kids_of (node_in I p)) → branch I v p ≡ 0 → K.keep u ≡ 1
    rest_child p u h c z =
        by_eq u v (λ e. ap K.keep e ∙ keep_own)
        (λ ne. let mark = keep_other u ne in let same = branch_free p u h c ne in omega arith)

    -- and a parent of a kept node has none
    rest_parent : (p u : ℕ) → p ≤ last → Has u (kids_of (node_in I p)) → K.keep u ≡ 1 → branch I v p ≡ 0
    rest_parent p u h c k =
        let (most, least) = branch_marks p h in
        by_eq (branch I v p) 1
        (λ one. absurd (let below = tree.below h c in
        let low = least one in
        let ne : u ≡ v → ⊥ = λ e. omega arith in
        let mark = keep_other u ne in
        let same = branch_free p u h c ne in
        omega arith))
        (λ ne. omega arith)

    -- The rest stands as a tree with the table's root.
    pub rest_stands : Stands I K last
    rest_stands =
        let inside = cut.inside in
        record {
          marks = record {
            most = λ u h. by_eq u v (λ e. let one = ap K.keep e ∙ keep_own in omega arith)
                (λ ne. let mark = keep_other u ne in omega arith);
          };
          inside = omega arith;
          kept = let mark = keep_other last (λ e. omega arith) in let z = branch_root in omega arith;
          most = λ u h k. omega arith;
          kids = λ u a b h k e. let (other, same, z) = rest_inner u (inner a b) k e (λ p. leaf_inner (sym p)) in (
            same,
            rest_child u a (omega arith) (subst (λ x. Has a (kids_of x)) (sym same) (inl refl)) z,
            rest_child u b (omega arith) (subst (λ x. Has b (kids_of x)) (sym same) (inr refl)) z,
          );
          tips = λ u r h k e. (rest_inner u (leaf symbol r) k e kinds).1;
          parent = λ u low k. let (p, hp, c) = parent_has last (kids_at I.left I.right) tree u low in
              let z = rest_parent p u hp c k in
              let ne : p ≡ v → ⊥ = λ e. (let one = ap (branch I v) e ∙ branch_own in omega arith) in
              let mark = keep_other p ne in
              (p, omega arith, omega arith, subst (λ x. Has u (kids_of x)) (sym (node_other p ne)) c);
          rows = λ j u k x hj h ku e hx. rows j u k x hj h e hx;
        }
      where
        kinds : {r : ℕ} → leaf symbol r ≡ leaf handed 0 → ⊥
        kinds e = let z : ◌≡◌ {A = ℕ} 0 1 = cc in omega arith

        rows : (j u k x : ℕ) → j < I.c → u < n → K.node u ≡ leaf handed k → x < I.s
            → K.entry j u x ≡ row (column I j) u x
        rows j u k x hj h e hx =
            by_eq u v
            (λ p. pick_true (up j x) ((column I j).entry u x) (eq-eqb u v p)
            ∙ sent j x hj hx
            ∙ ap (λ w. row (column I j) w x) (sym p))
            (λ ne. pick_false (up j x) ((column I j).entry u x) (ne_eqb u v ne)
            ∙ tip_row j u k x hj h (sym (node_other u ne) ∙ e))

    -- v is kept in the rest
    pub rest_own : K.keep v ≡ 1
    rest_own = keep_own

    -- each node is in the rest or in the part
    pub in_either : {X : Type 0} (u : ℕ) → u < n → (K.keep u ≡ 1 → X) → (branch I v u ≡ 1 → X) → X
    in_either u h f g =
        by_eq u v (λ e. f (ap K.keep e ∙ keep_own))
        (λ ne. let mark = keep_other u ne in
        let most = (branch_marks u (omega arith)).0 in
        by_eq (branch I v u) 1 g (λ nb. f (omega arith)))

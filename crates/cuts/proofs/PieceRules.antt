-- A piece whose nodes stand as a tree sits in its table, keeps every rule, and may be cut again.
-- Assumes nothing.
use mathlib.Core.Logic.{◌⊎◌, inl, inr}
use mathlib.Core.Path.{◌≡◌, refl, ap, ap₂, sym, ◌∙◌, subst}
use Prim.Native.Nat.{ℕ, ◌+◌, ◌*◌, ◌^◌, ◌≤◌, ◌<◌}
use native.Mathlib.Nat.{one-mul, zero-mul}
use native.Mathlib.Omega.{arith}
use lib.ListN.{get_or}
use Rattle.parsimony.specs.Allowed.{CellRules, HandedRules, most_handed}
use Rattle.parsimony.specs.Barred.{barred}
use Rattle.parsimony.specs.Column.{Column, column_of, cell_at, handed_at, cell_entry, tip_entry}
use Rattle.parsimony.specs.Row.{row}
use Rattle.parsimony.specs.Sound.{Sound}
use Rattle.parsimony.specs.Table.{symbol, handed, Node, leaf, inner, kids_of, tips, is_tip, TreeRules}
use Rattle.parsimony.specs.Tree.{tip, two, Has}
use Rattle.parsimony.proofs.ColumnLaws.{place}
use Rattle.parsimony.proofs.FilledLaws.{place_split}
use Rattle.parsimony.proofs.Order.{by_eq}
use Rattle.parsimony.proofs.RowLaws.{row_tip}
use Rattle.parsimony.proofs.Size.{row_open, bound_root, bound_fits}
use Rattle.parsimony.proofs.TreeLaws.{two_not_tip}
use Rattle.promises.specs.CallRules.{Allowed}
use Rattle.promises.specs.Input.{Input, nodes, node_in, tips_in, column}
use Rattle.promises.proofs.TableLaws.{table_sound}
use Rattle.cuts.specs.Cuttable.{Cuttable}
use Rattle.cuts.specs.Filled.{cells_by, entries_by}
use Rattle.cuts.specs.Numbering.{renumber, original}
use Rattle.cuts.specs.Piece.{
  Choice,
  kept_row,
  kept_handed,
  renumbered,
  piece_node,
  node_new,
  kept_nodes,
  kept_rows,
  kept_tips,
  kept_cell,
  kept_entry,
  piece,
}
use Rattle.cuts.specs.Sits.{Sits}
use Rattle.cuts.proofs.FilledLaws.{cells_long_lem, cells_at, entries_long, entries_at}
use Rattle.cuts.proofs.KeptLaws.{Stands, from, row_kept, row_marks, handed_marks, piece_some}
use Rattle.cuts.proofs.NumberLaws.{renumber_lt, original_is, original_own}
use Rattle.cuts.proofs.PieceLaws.{piece_tree, piece_size}
use Rattle.cuts.proofs.PieceNodes.{piece_nodes, piece_node_lem, piece_handed, piece_symbol}
use Rattle.cuts.proofs.SitsLaws.{sits_rows}

-- of two numbers whose product is 1, the first at most 1, both are 1
product_one : (k x : ℕ) → k ≤ 1 → k * x ≡ 1 → (k ≡ 1) × (x ≡ 1)
product_one k x most e =
    by_eq k 1 (λ one. (one, sym (one-mul x) ∙ ap (λ z. z * x) (sym one) ∙ e))
    (λ ne. absurd (let z : k ≡ 0 = omega arith in let p : k * x ≡ 0 = ap (λ i. i * x) z ∙ zero-mul x in omega arith))

-- a node that counts as a handed tip is one
tip_handed : (x : Node) → is_tip handed x ≡ 1 → (q : ℕ) × (x ≡ leaf handed q)
tip_handed (leaf symbol r) e = absurd (let z : ◌≡◌ {A = ℕ} 0 1 = e in omega arith)
tip_handed (leaf handed r) e = (r, refl)
tip_handed (inner a b) e = absurd (let z : ◌≡◌ {A = ℕ} 0 1 = e in omega arith)

-- cells filled with allowed sets keep the rules
pub cells_rules : (s t c : ℕ) (cell : ℕ → ℕ → ℕ) → c ≤ 65535
    → ((r j : ℕ) → r < t → j < c → (1 ≤ cell r j) × (cell r j < 2 ^ s)) → CellRules s t c (cells_by t c cell)
cells_rules s t c cell most fit =
    record {
      columns = most;
      count = cells_long_lem t c cell;
      filled = λ i h. let (r, j, hr, hj, e) = place_split t c i h in
          subst (λ k. 1 ≤ k) (sym (ap (λ k. get_or (cells_by t c cell) k 0) e ∙ cells_at t c cell r j hr hj))
          (fit r j hr hj).0;
      bits = λ i h. let (r, j, hr, hj, e) = place_split t c i h in
          subst (λ k. k < 2 ^ s) (sym (ap (λ k. get_or (cells_by t c cell) k 0) e ∙ cells_at t c cell r j hr hj))
          (fit r j hr hj).1;
    }

-- and so do rows that may be handed up
pub entries_rules : (s c h : ℕ) (entry : ℕ → ℕ → ℕ → ℕ)
    → ((j k x : ℕ) → j < c → k < h → x < s → (entry j k x ≤ most_handed) ⊎ (entry j k x ≡ barred))
    → ((j k : ℕ) → j < c → k < h → (x : ℕ) × (x < s) × (entry j k x ≡ barred → ⊥))
    → HandedRules s c h (entries_by c h s entry)
entries_rules s c h entry small some =
    record {
      count = entries_long c h s entry;
      range = λ i hi. let (q, x, hq, hx, e) = place_split (c * h) s i hi in
          let (j, k, hj, hk, f) = place_split c h q hq in
          let same : get_or (entries_by c h s entry) i 0 ≡ entry j k x =
          ap (λ z. get_or (entries_by c h s entry) z 0) (e ∙ ap (λ z. z * s + x) f)
          ∙ entries_at c h s entry j k x hj hk hx in
          subst (λ z. (z ≤ most_handed) ⊎ (z ≡ barred)) (sym same) (small j k x hj hk hx);
      unbarred = λ i hi. let (j, k, hj, hk, f) = place_split c h i hi in
          let (x, hx, free) = some j k hj hk in
          let same : get_or (entries_by c h s entry) (i * s + x) 0 ≡ entry j k x =
          ap (λ z. get_or (entries_by c h s entry) (z * s + x) 0) f ∙ entries_at c h s entry j k x hj hk hx in
          (x, hx, λ bar. free (sym same ∙ bar));
    }

-- a row of a sound column is not wholly barred
pub row_free : (P : Column) → Sound most_handed P → (v : ℕ) → v ≤ P.last
    → (x : ℕ) × (x < P.states) × (row P v x ≡ barred → ⊥)
row_free P sound v h =
    let (x, hx, small) = row_open most_handed P sound v h in
    let most = bound_root P.last most_handed P.kids sound.tree v h in
    let fits = bound_fits most_handed P sound in
    (x, hx, λ bar. omega arith)

module _ (I : Input) (table : Allowed I) (K : Choice) (top : ℕ) (stands : Stands I K top) where
  abbrev n : ℕ
  n = nodes I

  abbrev m : ℕ
  m = kept_nodes I K

  cell_same : (j u r : ℕ) → j < I.c → u < n → K.keep u ≡ 1 → K.node u ≡ leaf symbol r
      → cell_at I.c (piece I K).cells j (renumber (kept_row I K) r) ≡ cell_at I.c I.cells j r
  unfolding cell_at kept_cell
  cell_same j u r hj h k e =
      let (low, kept) = row_kept I table K top stands u r h k e in
      let inside = renumber_lt (kept_row I K) r (tips_in symbol I) kept low in
      let own = original_own (kept_row I K) (tips_in symbol I) r (row_marks I table K top stands) low kept in
      cells_at (kept_rows I K) I.c (kept_cell I K) (renumber (kept_row I K) r) j inside hj
      ∙ ap (λ z. cell_at I.c I.cells j z) own

  pub handed_kept : (u k : ℕ) → K.keep u ≡ 1 → K.node u ≡ leaf handed k → kept_handed K u ≡ 1
  unfolding kept_handed
  handed_kept u k ku e = ap₂ ◌*◌ ku (ap (is_tip handed) e)

  handed_many : tips_in handed (piece I K) ≡ kept_tips I K
  handed_many =
      ap (tips handed (node_in (piece I K))) (piece_nodes I table K top stands) ∙ piece_handed I table K top stands

  entry_same : (j u k x : ℕ) → j < I.c → u < n → K.keep u ≡ 1 → K.node u ≡ leaf handed k → x < I.s
      → handed_at I.s (tips_in handed (piece I K)) (piece I K).handed j (renumber (kept_handed K) u) x
      ≡ row (column I j) u x
  unfolding handed_at kept_entry
  entry_same j u k x hj h ku e hx =
      let kept = handed_kept u k ku e in
      let inside = renumber_lt (kept_handed K) u n kept h in
      let own = original_own (kept_handed K) n u (handed_marks I table K top stands) h kept in
      ap (λ z. handed_at I.s z (piece I K).handed j (renumber (kept_handed K) u) x) handed_many
      ∙ entries_at I.c (kept_tips I K) I.s (kept_entry I K) j (renumber (kept_handed K) u) x hj inside hx
      ∙ ap (λ z. K.entry j z x) own
      ∙ stands.rows j u k x hj h ku e hx

  -- what a tip of the piece has in column j
  abbrev tip_of : ℕ → Node → ℕ → ℕ
  tip_of j =
      tip_entry (cell_at I.c (piece I K).cells j)
      (handed_at I.s (tips_in handed (piece I K)) (piece I K).handed j)

  tip_same : (j u x : ℕ) → j < I.c → u < n → K.keep u ≡ 1 → x < I.s → (y : Node) → K.node u ≡ y
      → kids_of (renumbered I K u y) ≡ tip → tip_of j (renumbered I K u y) x ≡ row (column I j) u x
  unfolding column_of
  tip_same j u x hj h k hx (leaf symbol r) e t =
      let at_node = stands.tips u r h k e in
      let sound = table_sound I table j hj in
      ap (λ z. cell_entry z x) (cell_same j u r hj h k e)
      ∙ ap (λ z. tip_entry (cell_at I.c I.cells j) (handed_at I.s (tips_in handed I) I.handed j) z x)
      (sym at_node)
      ∙ sym (row_tip (column I j) sound.tree u x (omega arith) (ap kids_of at_node))
  tip_same j u x hj h k hx (leaf handed r) e t = entry_same j u r x hj h k e hx
  tip_same j u x hj h k hx (inner a b) e t = absurd (two_not_tip _ _ t)

  inner_same : (u a' b' : ℕ) → u < n → K.keep u ≡ 1 → (y : Node) → K.node u ≡ y
      → kids_of (renumbered I K u y) ≡ two a' b' → kids_of (node_in I u) ≡ two (piece_node I K a') (piece_node I K b')
  unfolding piece_node
  inner_same u a' b' h k (leaf symbol r) e f = absurd (two_not_tip _ _ (sym f))
  inner_same u a' b' h k (leaf handed r) e f = absurd (two_not_tip _ _ (sym f))
  inner_same u a' b' h k (inner a b) e f =
      let (same, ka, kb) = stands.kids u a b h k e in
      let left_same : renumber K.keep a ≡ a' = cc in
      let right_same : renumber K.keep b ≡ b' = cc in
      let low : (w : ℕ) → Has w (kids_of (inner a b)) → w < n =
      λ w c. let below = table.legal.tree.below {v = u} {u = w} h
      (subst (λ x. Has w (kids_of x)) (sym same) c) in omega arith in
      let own_left = original_own K.keep n a stands.marks (low a (inl refl)) ka in
      let own_right = original_own K.keep n b stands.marks (low b (inr refl)) kb in
      ap kids_of same
      ∙ ap₂ two (sym own_left ∙ ap (original K.keep n) left_same)
      (sym own_right ∙ ap (original K.keep n) right_same)

  -- The piece sits in its table, in every column.
  pub piece_sits : (j : ℕ) → j < I.c → Sits (column (piece I K) j) (column I j) (piece_node I K)
  unfolding column_of node_new
  piece_sits j hj =
      let long = piece_nodes I table K top stands in
      let some = piece_some I table K top stands in
      record {
        states = refl;
        cost = refl;
        inside = λ v h. let (inside, kept, number) = from I table K top stands v (omega arith) in omega arith;
        inner = λ v a b h e. let (inside, kept, number) = from I table K top stands v (omega arith) in
            inner_same (piece_node I K v) a b inside kept (K.node (piece_node I K v)) refl
            (ap kids_of (sym (piece_node_lem I table K top stands v (omega arith))) ∙ e);
        tips = λ v x h e hx. let (inside, kept, number) = from I table K top stands v (omega arith) in
            let here = piece_node_lem I table K top stands v (omega arith) in
            ap (λ z. tip_of j z x) here
            ∙ tip_same j (piece_node I K v) x hj inside kept hx (K.node (piece_node I K v)) refl
            (ap kids_of (sym here) ∙ e);
      }

  symbol_many : tips_in symbol (piece I K) ≡ kept_rows I K
  symbol_many =
      ap (tips symbol (node_in (piece I K))) (piece_nodes I table K top stands) ∙ piece_symbol I table K top stands

  -- the cells of the piece keep the rules
  piece_cells : CellRules I.s (tips_in symbol (piece I K)) I.c (piece I K).cells
  unfolding kept_cell cell_at
  piece_cells =
      let old = table.cells in
      subst (λ t. CellRules I.s t I.c (piece I K).cells) (sym symbol_many)
      (cells_rules I.s (kept_rows I K) I.c (kept_cell I K) old.columns
      (λ r j hr hj. let marks = row_marks I table K top stands in
      let (inside, kept, number) = original_is (kept_row I K) (tips_in symbol I) r marks hr in
      let q = place (original (kept_row I K) (tips_in symbol I) r) j (tips_in symbol I) I.c inside hj in
      (old.filled _ q, old.bits _ q)))

  -- each handed row of the piece is the table's row at its tip
  handed_row : (j k x : ℕ) → j < I.c → k < kept_tips I K → x < I.s
      → kept_entry I K j k x ≡ row (column I j) (original (kept_handed K) n k) x
  unfolding kept_entry kept_handed
  handed_row j k x hj hk hx =
      let (inside, kept, number) = original_is (kept_handed K) n k (handed_marks I table K top stands) hk in
      let u = original (kept_handed K) n k in
      let (one, tip_kept) = product_one (K.keep u) (is_tip handed (K.node u)) (stands.marks.most u inside) kept in
      let (q, e) = tip_handed (K.node u) tip_kept in
      stands.rows j u q x hj inside one e hx

  -- The piece keeps the rules 1 to 5 and may be cut again.
  module _ (small : (j v x : ℕ) → j < I.c → v < nodes I → x < I.s
      → (row (column I j) v x ≤ most_handed) ⊎ (row (column I j) v x ≡ barred)) where
    piece_entries : HandedRules I.s I.c (tips_in handed (piece I K)) (piece I K).handed
    unfolding column_of
    piece_entries =
        subst (λ h. HandedRules I.s I.c h (piece I K).handed) (sym handed_many)
        (entries_rules I.s I.c (kept_tips I K) (kept_entry I K)
        (λ j k x hj hk hx. let marks = handed_marks I table K top stands in
        let (inside, kept, number) = original_is (kept_handed K) n k marks hk in
        subst (λ z. (z ≤ most_handed) ⊎ (z ≡ barred)) (sym (handed_row j k x hj hk hx))
        (small j (original (kept_handed K) n k) x hj inside hx))
        (λ j k hj hk. let marks = handed_marks I table K top stands in
        let (inside, kept, number) = original_is (kept_handed K) n k marks hk in
        let sound = table_sound I table j hj in
        let (x, hx, free) = row_free (column I j) sound (original (kept_handed K) n k) (omega arith) in
        (x, hx, λ bar. free (sym (handed_row j k x hj hk hx) ∙ bar))))

    pub piece_rules : Allowed (piece I K)
    piece_rules =
        let long = piece_nodes I table K top stands in
        let tree = subst (λ z. TreeRules z (node_in (piece I K))) (sym long) (piece_tree I table K top stands) in
        record {
          legal = record { size = piece_size I table K top stands; tree = tree };
          costs = table.costs;
          cells = piece_cells;
          handed = piece_entries;
        }

    -- its rows are the table's
    pub piece_row : (j i x : ℕ) → j < I.c → i < nodes (piece I K) → x < I.s
        → row (column (piece I K) j) i x ≡ row (column I j) (piece_node I K i) x
    unfolding column_of
    piece_row j i x hj hi hx =
        let old = table_sound I table j hj in
        sits_rows (column (piece I K) j) (column I j) (piece_node I K) (piece_sits j hj)
        (table_sound (piece I K) piece_rules j hj).tree old.tree old.states i x (omega arith) hx

    pub piece_cuttable : Cuttable (piece I K)
    piece_cuttable =
        record {
          table = piece_rules;
          small = λ j i x hj hi hx. let long = piece_nodes I table K top stands in
              let (inside, kept, number) = from I table K top stands i (omega arith) in
              subst (λ z. (z ≤ most_handed) ⊎ (z ≡ barred)) (sym (piece_row j i x hj hi hx))
              (small j (piece_node I K i) x hj inside hx);
        }

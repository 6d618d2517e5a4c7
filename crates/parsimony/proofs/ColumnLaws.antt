-- Laws of a table's columns: every column is sound, and a labelling agrees and costs as the kinds of the tips say.
-- Assumes nothing.
use mathlib.Core.List.{List}
use mathlib.Core.Logic.{◌⊎◌, inl, inr, ◌↔◌}
use mathlib.Core.Path.{◌≡◌, refl, ap, ◌∙◌, subst}
use Prim.Native.Nat.{ℕ, suc, ◌+◌, ◌*◌, ◌-◌, ◌^◌, ◌≤◌, ◌<◌}
use native.Mathlib.Nat.{mul-le-mul_right, suc-mul}
use native.Mathlib.Omega.{arith}
use lib.ListN.{length}
use Rattle.parsimony.specs.Allowed.{CostRules, CellRules, HandedRules, most_handed}
use Rattle.parsimony.specs.Barred.{barred}
use Rattle.parsimony.specs.Column.{Column, cost_at, cell_at, handed_at, cell_entry, tip_entry, column_of}
use Rattle.parsimony.specs.Labelling.{Agrees, cost_below, cost_of}
use Rattle.parsimony.specs.Sound.{Sound}
use Rattle.parsimony.specs.StateSet.{Member, bit}
use Rattle.parsimony.specs.Sum.{sum}
use Rattle.parsimony.specs.Table.{
  symbol,
  handed,
  Node,
  leaf,
  inner,
  kids_of,
  node_at,
  tips,
  TreeRules,
  Legal,
}
use Rattle.parsimony.specs.TipKinds.{AgreesByKind, kind_cost, cost_by_kind}
use Rattle.parsimony.specs.Tree.{tip}
use Rattle.parsimony.proofs.Order.{by_eq, pick_true, pick_false}
use Rattle.parsimony.proofs.ShapeLaws.{row_within, rules_rooted}
use Rattle.parsimony.proofs.StateSetLaws.{holds_true, holds_false, member_some}
use Rattle.parsimony.proofs.Sums.{sum_same}

-- a symbol tip's row has 0 at a state in its cell
pub symbol_adds : (cell x : ℕ) → Member cell x → cell_entry cell x ≡ 0
unfolding cell_entry
symbol_adds cell x h = pick_true 0 barred (holds_true cell x h)

-- and is barred at a state that is not
pub symbol_bars : (cell x : ℕ) → (Member cell x → ⊥) → cell_entry cell x ≡ barred
unfolding cell_entry
symbol_bars cell x h = pick_false 0 barred (holds_false cell x h)

-- a state is in a symbol tip's cell exactly when the tip's row does not bar it
pub symbol_agrees : (cell x : ℕ) → (cell_entry cell x ≡ barred → ⊥) ↔ Member cell x
symbol_agrees cell x = (
  λ unbarred. by_eq (bit cell x) 1 (λ h. h) (λ n. absurd (unbarred (symbol_bars cell x n))),
  λ h bar. let e = symbol_adds cell x h in omega arith,
)

-- place y of row x of n rows of s is one of the n * s places
pub place : (x y n s : ℕ) → x < n → y < s → x * s + y < n * s
place x y n s h k = let step = suc-mul x s in let whole : suc x * s ≤ n * s = mul-le-mul_right s h in omega arith

-- a symbol tip's cell in column j of c is one of the m cells, where m is the number of symbol tips times c
pub cell_place : {left right : List ℕ} → Legal left right → (v : ℕ) → v < length left → (c j r m : ℕ)
    → m ≡ tips symbol (node_at left right) (length left) * c → j < c → node_at left right v ≡ leaf symbol r
    → r * c + j < m
cell_place {left} {right} legal v h c j r m count inside e =
    let within = row_within (length left) (node_at left right) legal.tree v h symbol r e in
    let at = place r j (tips symbol (node_at left right) (length left)) c within inside in
    omega arith

-- the column of n nodes, given the cost of a change, each matrix row's cell and each handed row
abbrev column : ℕ → (ℕ → Node) → ℕ → (ℕ → ℕ → ℕ) → (ℕ → ℕ) → (ℕ → ℕ → ℕ) → Column
column n node s cost cell row =
    record {
      last = n - 1;
      kids = λ v. kids_of (node v);
      states = s;
      cost = cost;
      entry = λ v. tip_entry cell row (node v);
    }

module _ (n : ℕ) (node : ℕ → Node) (s : ℕ) (cost : ℕ → ℕ → ℕ) (cell : ℕ → ℕ) (row : ℕ → ℕ → ℕ) (most : ℕ)
    (rules : TreeRules n node) (cells : (r : ℕ) → r < tips symbol node n → (cell r < 2 ^ s) × (0 < cell r))
    (rows : (k x : ℕ) → k < tips handed node n → x < s → (row k x ≤ most) ⊎ (row k x ≡ barred))
    (unbarred : (k : ℕ) → k < tips handed node n → (x : ℕ) × (x < s) × (row k x ≡ barred → ⊥)) where
  -- an entry of a tip's row is barred or at most most
  tip_range : (v x : ℕ) → v < n → x < s → (q : Node) → node v ≡ q → kids_of q ≡ tip
      → (tip_entry cell row q x ≤ most) ⊎ (tip_entry cell row q x ≡ barred)
  tip_range v x h hx (leaf symbol r) e t =
      by_eq (bit (cell r) x) 1 (λ m. inl (let z = symbol_adds (cell r) x m in omega arith))
      (λ m. inr (symbol_bars (cell r) x m))
  tip_range v x h hx (leaf handed k) e t = rows k x (row_within n node rules v h handed k e) hx
  tip_range v x h hx (inner a b) e t = absurd (let z : ◌≡◌ {A = ℕ} 0 1 = cc in omega arith)

  -- and not all entries are barred
  tip_unbarred : (v : ℕ) → v < n → (q : Node) → node v ≡ q → kids_of q ≡ tip
      → (x : ℕ) × (x < s) × (tip_entry cell row q x ≡ barred → ⊥)
  tip_unbarred v h (leaf symbol r) e t =
      let (below, filled) = cells r (row_within n node rules v h symbol r e) in
      let (x, hx, m) = member_some s (cell r) below filled in
      (x, hx, (symbol_agrees (cell r) x).1 m)
  tip_unbarred v h (leaf handed k) e t = unbarred k (row_within n node rules v h handed k e)
  tip_unbarred v h (inner a b) e t = absurd (let z : ◌≡◌ {A = ℕ} 0 1 = cc in omega arith)

  -- the column is sound
  sound : 0 < n → n ≤ 1023 → 0 < s → ((x y : ℕ) → x < s → y < s → cost x y ≤ 999) → most ≤ most_handed
      → Sound most (column n node s cost cell row)
  sound some few states cheap little =
      record {
        tree = rules_rooted (n - 1) node (subst (λ m. TreeRules m node) (omega arith) rules);
        nodes = omega arith;
        states = states;
        cheap = cheap;
        little = little;
        range = λ v x h e hx. tip_range v x (omega arith) hx (node v) refl e;
        unbarred = λ v h e. tip_unbarred v (omega arith) (node v) refl e;
      }

module _ (left right : List ℕ) (s : ℕ) (costs : List ℕ) (c : ℕ) (cells entries : List ℕ) (j : ℕ) where
  -- a column is sound where the handed entries that are not barred are at most most
  sound_most : (most : ℕ) → most ≤ most_handed → Legal left right → CostRules s costs
      → CellRules s (tips symbol (node_at left right) (length left)) c cells
      → HandedRules s c (tips handed (node_at left right) (length left)) entries → j < c
      → ((k x : ℕ) → k < tips handed (node_at left right) (length left) → x < s
      → (handed_at s (tips handed (node_at left right) (length left)) entries j k x ≤ most)
      ⊎ (handed_at s (tips handed (node_at left right) (length left)) entries j k x ≡ barred))
      → Sound most (column_of left right s costs c cells entries j)
  unfolding column_of
  sound_most most little legal cost_rules cell_rules handed_rules hj range =
      let h = tips handed (node_at left right) (length left) in
      let t = tips symbol (node_at left right) (length left) in
      sound (length left) (node_at left right) s (cost_at s costs) (cell_at c cells j) (handed_at s h entries j) most
      legal.tree
      (λ r k. (cell_rules.bits (r * c + j) (place r j t c k hj), cell_rules.filled (r * c + j) (place r j t c k hj)))
      range
      (λ k hk. handed_rules.unbarred (j * h + k) (place j k c h hj hk))
      (let odd = legal.size.odd in omega arith)
      legal.size.most
      (let fewest = cost_rules.fewest in omega arith)
      (λ x y hx hy. cost_rules.cheap (x * s + y) (place x y s s hx hy))
      little

  -- every column of a legal table with allowed costs, cells and handed rows is sound
  pub column_sound : Legal left right → CostRules s costs
      → CellRules s (tips symbol (node_at left right) (length left)) c cells
      → HandedRules s c (tips handed (node_at left right) (length left)) entries → j < c
      → Sound most_handed (column_of left right s costs c cells entries j)
  unfolding handed_at
  column_sound legal cost_rules cell_rules handed_rules hj =
      let h = tips handed (node_at left right) (length left) in
      sound_most most_handed (omega arith) legal cost_rules cell_rules handed_rules hj
      (λ k x hk hx. handed_rules.range ((j * h + k) * s + x)
      (place (j * h + k) x (c * h) s (place j k c h hj hk) hx))

  -- and with tips' entries 0 where no tip is handed
  pub whole_sound : Legal left right → CostRules s costs
      → CellRules s (tips symbol (node_at left right) (length left)) c cells
      → HandedRules s c (tips handed (node_at left right) (length left)) entries → j < c
      → tips handed (node_at left right) (length left) ≡ 0
      → Sound 0 (column_of left right s costs c cells entries j)
  whole_sound legal cost_rules cell_rules handed_rules hj none =
      sound_most 0 (omega arith) legal cost_rules cell_rules handed_rules hj (λ k x hk hx. absurd (omega arith))

  -- the row of a tip of this column
  abbrev row_of : Node → ℕ → ℕ
  row_of = tip_entry (cell_at c cells j) (handed_at s (tips handed (node_at left right) (length left)) entries j)

  module _ (l : ℕ → ℕ) (some : 0 < length left) where
    -- a labelling that agrees by kind is not barred at a tip
    kind_tip : AgreesByKind left right s c cells entries j l → (v : ℕ) → v < length left → (q : Node)
        → node_at left right v ≡ q → kids_of q ≡ tip → row_of q (l v) ≡ barred → ⊥
    kind_tip a v h (leaf symbol r) e t bar = (symbol_agrees (cell_at c cells j r) (l v)).1 (a.symbols v r h e) bar
    kind_tip a v h (leaf handed k) e t bar = a.handed v k h e bar
    kind_tip a v h (inner x y) e t bar = let z : ◌≡◌ {A = ℕ} 0 1 = cc in omega arith

    -- a labelling agrees with the tips exactly when its states are in the cells and not barred by the handed rows
    pub agrees_by_kind : Agrees (column_of left right s costs c cells entries j) l
        ↔ AgreesByKind left right s c cells entries j l
    unfolding column_of
    agrees_by_kind = (
      λ a. record {
        states = λ v h. a.states v (omega arith);
        symbols = λ v r h e. (symbol_agrees (cell_at c cells j r) (l v)).0
            (λ bar. a.tips v (omega arith) (ap kids_of e) (ap (λ q. row_of q (l v)) e ∙ bar));
        handed = λ v k h e bar. a.tips v (omega arith) (ap kids_of e) (ap (λ q. row_of q (l v)) e ∙ bar);
      },
      λ a. record {
        states = λ v h. a.states v (omega arith);
        tips = λ v h e bar. kind_tip a v (omega arith) (node_at left right v) refl e bar;
      },
    )

    -- the cost of such a labelling is the costs along all edges plus each handed row's entry at that tip's state
    pub cost_by_kind_lem : AgreesByKind left right s c cells entries j l
        → cost_of (column_of left right s costs c cells entries j) l ≡ cost_by_kind left right s costs entries j l
    unfolding column_of cost_of cost_by_kind
    cost_by_kind_lem a =
        let count : suc (length left - 1) ≡ length left = omega arith in
        ap (sum (λ v. below v (node_at left right v))) count
        ∙ sum_same _ _ (length left) (λ v h. at_node v h (node_at left right v) refl)
      where
        below : ℕ → Node → ℕ
        below v q = cost_below (column_of left right s costs c cells entries j) l v (kids_of q)

        at_node : (v : ℕ) → v < length left → (q : Node) → node_at left right v ≡ q
            → below v q
            ≡ kind_cost (cost_at s costs) (handed_at s (tips handed (node_at left right) (length left)) entries j) l v q
        at_node v h (leaf symbol r) e =
            ap (λ q. row_of q (l v)) e ∙ symbol_adds (cell_at c cells j r) (l v) (a.symbols v r h e)
        at_node v h (leaf handed k) e = ap (λ q. row_of q (l v)) e
        at_node v h (inner x y) e = refl

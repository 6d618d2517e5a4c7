-- The labelling from a start is least among those with that root, for every tie rule.
-- Assumes nothing.
use mathlib.Core.Path.{◌≡◌, ap, sym, ◌∙◌, subst}
use Prim.Native.Nat.{ℕ, ◌+◌, ◌≤◌, ◌<◌}
use native.Mathlib.Omega.{arith}
use Rattle.parsimony.specs.Barred.{barred}
use Rattle.parsimony.specs.Column.{Column}
use Rattle.parsimony.specs.Label.{choose, label_from}
use Rattle.parsimony.specs.Labelling.{Agrees, cost_of, LeastFrom}
use Rattle.parsimony.specs.Tie.{TieRule}
use Rattle.parsimony.specs.Row.{through, up, row}
use Rattle.parsimony.specs.Sound.{Sound}
use Rattle.parsimony.specs.Tree.{tip, Has, Descent}
use Rattle.parsimony.proofs.BarredLaws.{plus_below, below_plus}
use Rattle.parsimony.proofs.LeastLaws.{least_value}
use Rattle.parsimony.proofs.Order.{by_lt}
use Rattle.parsimony.proofs.RowLaws.{row_tip}
use Rattle.parsimony.proofs.Size.{up_open, rows_balance}
use Rattle.parsimony.proofs.Slack.{Tight, cost_least, tight_cost, cost_tight}
use Rattle.parsimony.proofs.TreeLaws.{parent_has, descend_meets}

-- every edge of the labelling reaches the least
abbrev pub TightLabels : Column → (ℕ → ℕ) → Type 0
TightLabels P l = Tight P (row P) (λ u. up P (row P u)) l

-- the labelling gives every node a state
abbrev pub States : Column → (ℕ → ℕ) → Type 0
States P l = (v : ℕ) → v ≤ P.last → l v < P.states

module _ (most : ℕ) (P : Column) (sound : Sound most P) where
  -- reaching the least is the same with plain sums as with sums that bar
  pub through_plain : (p u x y : ℕ) → p ≤ P.last → Has u (P.kids p) → x < P.states
      → through P (row P u) x y ≡ up P (row P u) x → P.cost x y + row P u y ≡ up P (row P u) x
  through_plain p u x y h c hx e =
      let o = up_open most P sound p u x h c hx in
      let q = plus_below (P.cost x y) (row P u y) (omega arith) in
      omega arith

  pub plain_through : (p u x y : ℕ) → p ≤ P.last → Has u (P.kids p) → x < P.states
      → P.cost x y + row P u y ≡ up P (row P u) x → through P (row P u) x y ≡ up P (row P u) x
  plain_through p u x y h c hx e =
      let o = up_open most P sound p u x h c hx in
      let q = below_plus (P.cost x y) (row P u y) (omega arith) in
      omega arith

  -- a tight labelling with an unbarred root agrees with the tips
  pub tight_agrees : (l : ℕ → ℕ) → States P l → TightLabels P l
      → (row P P.last (l P.last) ≡ barred → ⊥) → Agrees P l
  tight_agrees l states tight root = record { states = states; tips = at_tip }
    where
      at_tip : (v : ℕ) → v ≤ P.last → P.kids v ≡ tip → P.entry v (l v) ≡ barred → ⊥
      at_tip v h e bar =
          let r : row P v (l v) ≡ barred = row_tip P sound.tree v (l v) h e ∙ bar in
          by_lt v P.last
          (λ k. let (p, hp, c) = parent_has P.last P.kids sound.tree v k in
          let t = tight p v hp c in
          let o = up_open most P sound p v (l p) hp c (states p hp) in
          omega arith)
          (λ k. let q : v ≡ P.last = omega arith in root (subst (λ w. row P w (l w) ≡ barred) q r))

  -- a tight labelling costs its root's entry
  pub tight_costs : (l : ℕ → ℕ) → States P l → TightLabels P l → cost_of P l ≡ row P P.last (l P.last)
  tight_costs l states tight =
      tight_cost P sound.tree (row P) (λ u. up P (row P u)) (rows_balance most P sound) l states tight

  -- no labelling costs less than its root's entry
  pub costs_least : (l : ℕ → ℕ) → States P l → row P P.last (l P.last) ≤ cost_of P l
  costs_least l states = cost_least P sound.tree (row P) (λ u. up P (row P u)) (rows_balance most P sound) l states

  -- one that costs no more is tight
  pub costs_tight : (l : ℕ → ℕ) → States P l → cost_of P l ≤ row P P.last (l P.last) → TightLabels P l
  costs_tight l states h =
      cost_tight P sound.tree (row P) (λ u. up P (row P u)) (rows_balance most P sound) l states h

  module _ (rule : ℕ → ℕ → (ℕ → ℕ) → ℕ) (ties : TieRule rule) where
    -- the choosing step gives a state, and one that reaches the least
    pub choose_state : (u x : ℕ) → choose rule P (row P u) x < P.states
    unfolding choose
    choose_state u x = (ties.ties P.states x (through P (row P u) x) sound.states).within

    pub choose_reaches : (u x : ℕ) → through P (row P u) x (choose rule P (row P u) x) ≡ up P (row P u) x
    unfolding choose up
    choose_reaches u x = least_value _ _ _ (ties.ties P.states x (through P (row P u) x) sound.states)

    -- the labelling from a start x meets its equations
    pub label_meets : (x : ℕ) → Descent P.last P.kids (λ u. choose rule P (row P u)) x (label_from rule P x)
    unfolding label_from
    label_meets x = descend_meets P.last P.kids sound.tree (λ u. choose rule P (row P u)) x

    module _ (x : ℕ) (hx : x < P.states) where
      pub label_states : States P (label_from rule P x)
      label_states v h =
          by_lt v P.last
          (λ k. let (p, hp, c) = parent_has P.last P.kids sound.tree v k in
          subst (λ y. y < P.states) (sym ((label_meets x).edge hp c)) (choose_state v (label_from rule P x p)))
          (λ k. let e : v ≡ P.last = omega arith in
          let q = ap (label_from rule P x) e in
          let r = (label_meets x).root in
          omega arith)

      pub label_tight : TightLabels P (label_from rule P x)
      label_tight p u h c =
          let l = label_from rule P x in
          through_plain p u (l p) (l u) h c (label_states p h)
          (ap (through P (row P u) (l p)) ((label_meets x).edge h c) ∙ choose_reaches u (l p))

      -- it costs the root's entry at the start
      pub label_from_costs : cost_of P (label_from rule P x) ≡ row P P.last x
      label_from_costs =
          tight_costs (label_from rule P x) label_states label_tight ∙ ap (row P P.last) (label_meets x).root

      -- and is least among the labellings with that root, unless the root's state is barred
      pub label_from_least : (row P P.last x ≡ barred → ⊥) → LeastFrom P x (label_from rule P x)
      label_from_least unbarred =
          record {
            agrees = tight_agrees (label_from rule P x) label_states label_tight
                (λ e. unbarred (ap (row P P.last) (sym (label_meets x).root) ∙ e));
            root = (label_meets x).root;
            least = λ other agrees e.
                let c = label_from_costs in
                let o = costs_least other agrees.states in
                let q = ap (row P P.last) e in
                omega arith;
          }

-- What the work on a column writes has the meaning that the calls promise.
-- Assumes nothing.
use mathlib.Core.List.{List, map}
use mathlib.Core.Path.{◌≡◌, ap, ◌∙◌, subst}
use Prim.Native.Nat.{ℕ, ◌-◌, ◌^◌, ◌≤◌, ◌<◌}
use native.Mathlib.Omega.{arith}
use Rattle.parsimony.specs.Allowed.{most_handed}
use Rattle.parsimony.specs.Column.{Column, column_of}
use Rattle.parsimony.specs.Label.{choose, label_from}
use Rattle.parsimony.specs.Least.{low}
use Rattle.parsimony.specs.Limits.{cell_bits}
use Rattle.parsimony.specs.NodeSet.{child_set, sets_from}
use Rattle.parsimony.specs.Row.{row}
use Rattle.parsimony.specs.Sound.{Sound}
use Rattle.parsimony.specs.Table.{kids_at}
use Rattle.parsimony.specs.Tie.{rule_in_use}
use Rattle.parsimony.specs.Tree.{Descent}
use Rattle.parsimony.specs.Written.{Written, entries, Below, Each}
use Rattle.parsimony.proofs.LabelLaws.{label_meets}
use Rattle.parsimony.proofs.SetLaws.{sets_meet}
use Rattle.parsimony.proofs.StateSetLaws.{states_fit}
use Rattle.parsimony.proofs.TieLaws.{in_use}
use Rattle.parsimony.proofs.TreeLaws.{descent_unique}
use Rattle.promises.specs.CallRules.{Allowed}
use Rattle.promises.specs.CallWrites.{StatesOf, SetsOf}
use Rattle.promises.specs.Input.{Input, nodes, column}
use Rattle.promises.specs.Results.{IsEntry}
use Rattle.promises.specs.RowRoom.{HoldsRows}
use Rattle.promises.specs.Starts.{StateStart, SetStart, start_or}
use Rattle.promises.specs.Input.{Start}
use Rattle.std.specs.Prelude.{None, Some, IfSome}
use Rattle.promises.proofs.Meaning.{entry_right, labelling_right, start_within, set_right}
use Rattle.promises.proofs.TableLaws.{table_node, table_sound}
use Rattle.promises.proofs.WriteLaws.{written_right}
use Rattle.choice_steps.specs.Marks.{Passing, chosen, settled}
use Rattle.choice_steps.specs.Ties.{least_set}
use Rattle.choice_steps.specs.Marks.{row_of, gives, WalkedDown, Walked}
use Rattle.std.proofs.Common.{◌++◌, drop, length-append, length-drop, get_or-drop}
use Rattle.std.proofs.lemmas.List.{map-id, get_or_append_left, get_or-append_right}
use lib.ListN.{length, get_or}
use Rattle.choice_steps.proofs.LinkLaws.{chosen_is, settled_is, root_entry, start_is, start_set_is}

-- a walk over marks that are numbers is a walk over these numbers
pub numbers_walked : (pass : Passing) (I : Input) (rows : List ℕ) (start : ℕ) (l l' : List ℕ)
    → Walked pass I rows start (map (λ x. x) l) (map (λ x. x) l') → Walked pass I rows start l l'
numbers_walked pass I rows start l l' walked =
    subst (λ k. Walked pass I rows start l k) (map-id l')
    (subst (λ k. Walked pass I rows start k (map (λ x. x) l')) (map-id l) walked)

module _ (I : Input) (table : Allowed I) (j : ℕ) (inside : j < I.c) where
  abbrev col : Column
  col = column I j

  sound : Sound most_handed col
  sound = table_sound I table j inside

  -- a start set fits a cell
  pub start_fits : (start : Start) → SetStart I j start → IfSome start (λ w. w < 2 ^ cell_bits)
  start_fits None may = tt
  start_fits (Some w) may =
      let wide = states_fit I.s table.costs.most in
      omega (arith, may.within)

  module _ (rows : List ℕ) (held : HoldsRows (row col) (nodes I) I.s (entries rows)) where
    -- states that come down from a start by the choosing step on the rows are those of the labelling from it
    labels_are : (x : ℕ) (l : ℕ → ℕ)
        → Descent (nodes I - 1) (kids_at I.left I.right) (gives chosen I rows) x l
        → (v : ℕ) → v ≤ col.last → l v ≡ label_from rule_in_use col x v
    unfolding column_of
    labels_are x l down =
        descent_unique (nodes I - 1) (kids_at I.left I.right) sound.tree x (gives chosen I rows)
        (λ u. choose rule_in_use col (row col u))
        (λ u y hu. chosen_is I table j rows held u y (let n = table_node I table in omega arith))
        l (label_from rule_in_use col x) down (label_meets most_handed col sound rule_in_use in_use x)

    -- so the states written down from the root's are the labelling from the start
    pub states_walked : (start : Start) {states states' : List ℕ} → StateStart I j start
        → WalkedDown (nodes I) (kids_at I.left I.right) (gives chosen I rows)
        (start_or start (low (row_of I.s rows (nodes I - 1)) I.s)) states states'
        → StatesOf I j start states states'
    unfolding column_of
    states_walked start {states' = states'} may down =
        let free = ap (start_or start) (start_is I table j rows held) in
        let from = subst (λ x. Descent (nodes I - 1) (kids_at I.left I.right) (gives chosen I rows) x
        (entries states')) free down.right in
        written_right down
        (labelling_right I table j inside start (entries states') may
        (λ v h. labels_are _ (entries states') from v (omega arith)))

    -- sets that come down from a start set by the set step on the rows are the sets from it
    sets_are : (w : ℕ) (S : ℕ → ℕ) → w < 2 ^ I.s
        → Descent (nodes I - 1) (kids_at I.left I.right) (gives settled I rows) w S
        → (v : ℕ) → v ≤ col.last → S v ≡ sets_from col w v
    unfolding column_of
    sets_are w S hw down =
        descent_unique (nodes I - 1) (kids_at I.left I.right) sound.tree w (gives settled I rows)
        (λ u. child_set col (row col u))
        (λ u y hu. settled_is I table j rows held u y (let n = table_node I table in omega arith))
        S (sets_from col w) down (sets_meet most_handed col sound w hw)

    -- so the sets written down from the root's are the sets from the start
    pub sets_walked : (start : Start) {sets sets' : List ℕ} → SetStart I j start
        → WalkedDown (nodes I) (kids_at I.left I.right) (gives settled I rows)
        (start_or start (least_set (row_of I.s rows (nodes I - 1)) I.s)) sets sets'
        → SetsOf I j start sets sets'
    unfolding column_of
    sets_walked start {sets' = sets'} may down =
        let free = ap (start_or start) (start_set_is I table j rows held) in
        let from = subst (λ w. Descent (nodes I - 1) (kids_at I.left I.right) (gives settled I rows) w
        (entries sets')) free down.right in
        let within = start_within I table j inside start may in
        written_right down
        (λ v h. set_right I table j inside start v (entries sets' v) may h
        (sets_are _ (entries sets') within from v (omega arith)))

    -- the root's row copied to the front of a list is the row that is handed up
    pub row_copied : (own out : List ℕ) → length own ≡ I.s → I.s ≤ length out
        → ((x : ℕ) → x < I.s → get_or own x 0 ≡ row_of I.s rows (nodes I - 1) x)
        → Written (Below I.s) (Each I.s (IsEntry col)) out (own ++ drop I.s out)
    unfolding column_of
    row_copied own out size room is =
        record {
          right = λ x hx. entry_right I table j inside x (get_or (own ++ drop I.s out) x 0) hx
              (get_or_append_left own (drop I.s out) 0 x (omega arith)
              ∙ is x hx ∙ root_entry I table j rows held x hx);
          long = let whole = length-append own (drop I.s out) in
              let rest = length-drop I.s out in
              omega arith;
          kept = λ i none.
              get_or-append_right own (drop I.s out) I.s i 0 size (omega arith)
              ∙ get_or-drop I.s out (i - I.s) 0
              ∙ ap (λ k. get_or out k 0) (omega arith);
        }

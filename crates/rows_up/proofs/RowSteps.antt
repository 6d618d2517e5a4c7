-- The row of a node of an allowed table's column, by what the table says of the node.
-- Assumes nothing.
use Rattle.std.proofs.Common.{subst, List, ◌≡◌, ℕ, ◌+◌, ◌*◌, ◌<◌, length, get_or, ap, ap₂, sym, ◌∙◌, arith}
use Rattle.parsimony.specs.Allowed.{most_handed}
use Rattle.parsimony.specs.Barred.{plus}
use Rattle.parsimony.specs.Column.{Column, cost_at, cell_at, handed_at, cell_entry, tip_entry, column_of}
use Rattle.parsimony.specs.Least.{least}
use Rattle.parsimony.specs.Row.{row, up}
use Rattle.parsimony.specs.Sound.{Sound}
use Rattle.parsimony.specs.Table.{symbol, handed, leaf, inner, kids_of}
use Rattle.parsimony.specs.Written.{entries}
use Rattle.parsimony.proofs.LeastLaws.{least_same}
use Rattle.parsimony.proofs.RowLaws.{row_tip, row_inner}
use Rattle.promises.specs.CallRules.{Allowed}
use Rattle.promises.specs.Input.{Input, nodes, node_in, tips_in, column}
use Rattle.promises.proofs.TableLaws.{table_state, table_sound}
use Rattle.promises.specs.RowRoom.{HoldsRows}
use Rattle.row_step.specs.Lane.{Within, lane, join, Calm, RowIs}
use Rattle.rows_up.proofs.RoomLaws.{rows_calm, row_calm}

module _ (I : Input) (table : Allowed I) (j : ℕ) (inside : j < I.c) where
  -- the column that is worked
  abbrev col : Column
  col = column I j

  sound : Sound most_handed col
  sound = table_sound I table j inside

  -- the rows of the column, as they stand in a row room, are calm
  pub table_calm : (rows : List ℕ) → HoldsRows (row col) (nodes I) I.s (entries rows)
      → (v x : ℕ) → v < nodes I → x < I.s → Within 1073741823 (get_or rows (v * I.s + x) 0)
  unfolding column_of
  table_calm rows holds v x h k =
      subst (Within 1073741823) (sym (holds v x h k)) (rows_calm most_handed col sound v x (omega arith) k)

  module _ (v : ℕ) (h : v < nodes I) where
    -- a symbol tip's row, by its cell
    pub symbol_row : (r : ℕ) → node_in I v ≡ leaf symbol r
        → (x : ℕ) → cell_entry (cell_at I.c I.cells j r) x ≡ row col v x
    unfolding column_of
    symbol_row r e x =
        sym (row_tip col sound.tree v x (omega arith) (ap kids_of e)
        ∙ ap (λ q. tip_entry (cell_at I.c I.cells j) (handed_at I.s (tips_in handed I) I.handed j) q x) e)

    -- a handed tip's row is the one that is handed
    pub handed_row : (k : ℕ) → node_in I v ≡ leaf handed k
        → (x : ℕ) → handed_at I.s (tips_in handed I) I.handed j k x ≡ row col v x
    unfolding column_of
    handed_row k e x =
        sym (row_tip col sound.tree v x (omega arith) (ap kids_of e)
        ∙ ap (λ q. tip_entry (cell_at I.c I.cells j) (handed_at I.s (tips_in handed I) I.handed j) q x) e)

    -- the row of a lower node, as it stands among the rows below
    pub child_row : (below l : List ℕ) (u : ℕ) → HoldsRows (row col) v I.s (entries below) → u < v → length l ≡ I.s
        → RowIs (λ x. get_or below (u * I.s + x) 0) l → RowIs (row col u) l
    child_row below l u holds low size is x k = is x k ∙ holds u x low (omega arith)

    -- is calm
    pub child_calm : (l : List ℕ) (u : ℕ) → u < v → length l ≡ I.s → RowIs (row col u) l → Calm l
    unfolding column_of
    child_calm l u low size is = row_calm most_handed col sound u l (omega arith) size is

    module _ (a b : ℕ) (e : node_in I v ≡ inner a b) (left right : List ℕ) (size : length left ≡ I.s)
        (size' : length right ≡ I.s) (is : RowIs (row col a) left) (is' : RowIs (row col b) right) where
      -- the least up from a child
      child_up : (u : ℕ) (l : List ℕ) → length l ≡ I.s → RowIs (row col u) l
          → (x : ℕ) → least (lane (cost_at I.s I.costs x) (entries l)) I.s ≡ up col (row col u) x
      unfolding column_of up
      child_up u l long is x =
          least_same (lane (cost_at I.s I.costs x) (entries l)) _ I.s (table_state I table)
          (λ y k. ap (plus (cost_at I.s I.costs x y)) (is y (omega arith)))

      -- an inner node's row comes from its children's
      pub inner_row_lem : (x : ℕ) → x < I.s
          → join (cost_at I.s I.costs) I.s (entries left) (entries right) x ≡ row col v x
      unfolding column_of
      inner_row_lem x k =
          ap₂ plus (child_up a left size is x) (child_up b right size' is' x)
          ∙ sym (row_inner col sound.tree v a b x (omega arith) (ap kids_of e))

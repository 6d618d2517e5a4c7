-- What stands in the row room is the column's: the choosing step, the set step, the start and the score read off it.
-- Assumes nothing.
use Rattle.std.proofs.Common.{List, ◌≡◌, ℕ, ◌-◌, ◌<◌, eqb, ap, ap₂, arith}
use Rattle.parsimony.specs.Barred.{plus}
use Rattle.parsimony.specs.Column.{column_of, cost_at}
use Rattle.parsimony.specs.Label.{choose, free_start}
use Rattle.parsimony.specs.Least.{low, least}
use Rattle.parsimony.specs.NodeSet.{reaches, child_set, free_set}
use Rattle.parsimony.specs.Row.{through, up, row, score}
use Rattle.parsimony.specs.StateSet.{holds}
use Rattle.parsimony.specs.Test.{both}
use Rattle.parsimony.specs.Tie.{rule_in_use}
use Rattle.parsimony.specs.Written.{entries}
use Rattle.parsimony.proofs.LeastLaws.{low_same, least_same}
use Rattle.parsimony.proofs.StateCountLaws.{gather_same, some_same}
use Rattle.parsimony.proofs.TieLaws.{in_use}
use Rattle.promises.specs.CallRules.{Allowed}
use Rattle.promises.specs.Input.{Input, nodes, column}
use Rattle.promises.specs.RowRoom.{HoldsRows}
use Rattle.promises.proofs.TableLaws.{table_node, table_state}
use Rattle.row_step.specs.Lane.{lane}
use Rattle.choice_steps.specs.Marks.{chosen, settled}
use Rattle.choice_steps.specs.Ties.{reached_under, least_set, least_below}
use Rattle.choice_steps.specs.Marks.{row_of, gives}

module _ (I : Input) (table : Allowed I) (j : ℕ) (rows : List ℕ)
    (held : HoldsRows (row (column I j)) (nodes I) I.s (entries rows)) where
  lane_through : (u x y : ℕ) → u < nodes I → y < I.s
      → lane (cost_at I.s I.costs x) (row_of I.s rows u) y ≡ through (column I j) (row (column I j) u) x y
  unfolding column_of
  lane_through u x y hu hy = ap (plus (cost_at I.s I.costs x y)) (held u y hu hy)

  lane_up : (u x : ℕ) → u < nodes I
      → least (lane (cost_at I.s I.costs x) (row_of I.s rows u)) I.s ≡ up (column I j) (row (column I j) u) x
  unfolding up column_of
  lane_up u x hu = least_same _ _ I.s (table_state I table) (λ y hy. lane_through u x y hu hy)

  -- the choosing step on the room is the choosing step
  pub chosen_is : (u x : ℕ) → u < nodes I
      → gives chosen I rows u x ≡ choose rule_in_use (column I j) (row (column I j) u) x
  unfolding chosen choose column_of
  chosen_is u x hu = in_use.same I.s x _ _ (λ y hy. lane_through u x y hu hy)

  -- the set step on the room is the set step
  pub settled_is : (u w : ℕ) → u < nodes I
      → gives settled I rows u w ≡ child_set (column I j) (row (column I j) u) w
  unfolding settled reached_under child_set reaches column_of
  settled_is u w hu =
      gather_same _ _ I.s
      (λ y hy. some_same _ _ I.s
      (λ x hx. ap (both (holds w x)) (ap₂ eqb (lane_through u x y hu hy) (lane_up u x hu))))

  pub root_entry : (x : ℕ) → x < I.s → row_of I.s rows (nodes I - 1) x ≡ row (column I j) (nodes I - 1) x
  root_entry x hx = held (nodes I - 1) x (let n = table_node I table in omega arith) hx

  -- the lowest least state of the root's row in the room is the free start
  pub start_is : low (row_of I.s rows (nodes I - 1)) I.s ≡ free_start (column I j)
  unfolding free_start column_of
  start_is = low_same _ _ I.s root_entry

  -- the least states of the root's row in the room are the free start set
  pub start_set_is : least_set (row_of I.s rows (nodes I - 1)) I.s ≡ free_set (column I j)
  unfolding least_below free_set score column_of
  start_set_is =
      gather_same _ _ I.s
      (λ x hx. ap₂ eqb (root_entry x hx) (least_same _ _ I.s (table_state I table) root_entry))

  -- the least entry of the root's row in the room is the score
  pub least_is : least (row_of I.s rows (nodes I - 1)) I.s ≡ score (column I j)
  unfolding score column_of
  least_is = least_same _ _ I.s (table_state I table) root_entry

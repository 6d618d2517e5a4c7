-- Room for the work on a column.
-- Assumes nothing.
use Rattle.std.specs.Prelude.{◌≡◌, ◌≤◌, length}
use Rattle.report_pages.specs.declared.Room.{Room}

-- the lists that are lent are long enough for every sheet
pub record Ample (r : Room) : Type 0 where
  pub states : 1023 ≤ length r.states.now
  pub sets : 1023 ≤ length r.sets.now
  pub rows : 4092 ≤ length r.rows.now

-- the lists are still those that were lent, and as long
pub record SameRoom (before after : Room) : Type 0 where
  pub cells : after.cells.ghost_name ≡ before.cells.ghost_name
  pub states : after.states.ghost_name ≡ before.states.ghost_name
  pub sets : after.sets.ghost_name ≡ before.sets.ghost_name
  pub rows : after.rows.ghost_name ≡ before.rows.ghost_name
  pub states_size : length after.states.now ≡ length before.states.now
  pub sets_size : length after.sets.now ≡ length before.sets.now
  pub rows_size : length after.rows.now ≡ length before.rows.now

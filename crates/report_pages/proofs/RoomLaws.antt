-- Laws of the lists that are lent for the work on a column: they stay the same, and ample.
-- Assumes nothing.
use mathlib.Core.Path.{refl, ◌∙◌}
use native.Mathlib.Omega.{arith}
use Rattle.report_pages.specs.Rooms.{Ample, SameRoom}
use Rattle.report_pages.specs.declared.Room.{Room}

-- a room is ample while its lists are as long
pub ample_still : (before after : Room) → Ample before → SameRoom before after → Ample after
ample_still before after ample same =
    let a = same.states_size in
    let b = same.sets_size in
    let c = same.rows_size in
    let d = ample.states in
    let e = ample.sets in
    let f = ample.rows in
    record { states = omega arith; sets = omega arith; rows = omega arith }

-- at the start they are the same, and then turn by turn
pub same_still : (room : Room) → SameRoom room room
same_still room =
    record {
      cells = refl;
      states = refl;
      sets = refl;
      rows = refl;
      states_size = refl;
      sets_size = refl;
      rows_size = refl;
    }

pub same_then : (a b c : Room) → SameRoom a b → SameRoom b c → SameRoom a c
same_then a b c one two =
    record {
      cells = two.cells ∙ one.cells;
      states = two.states ∙ one.states;
      sets = two.sets ∙ one.sets;
      rows = two.rows ∙ one.rows;
      states_size = two.states_size ∙ one.states_size;
      sets_size = two.sets_size ∙ one.sets_size;
      rows_size = two.rows_size ∙ one.rows_size;
    }

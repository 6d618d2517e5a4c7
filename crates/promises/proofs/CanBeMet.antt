-- Each promise can be met: on an allowed table, given a column and a start, whatever lists with room are lent, there
-- are lists with which it holds and the answer is done, and they have what the definitions by rows give.
-- Assumes nothing.
use mathlib.Core.List.{List, [], ◌∷◌, ◌++◌}
use mathlib.Core.Path.{◌≡◌, refl, sym, subst}
use Prim.Native.Nat.{ℕ, zero, suc, ◌*◌, ◌-◌, ◌≤◌, ◌<◌}
use native.Mathlib.Nat.{suc_inj}
use native.Mathlib.Omega.{arith}
use lib.ListN.{length}
use Rattle.parsimony.specs.Column.{column_of}
use Rattle.parsimony.specs.Counting.{counted_at}
use Rattle.parsimony.specs.Row.{row, score}
use Rattle.parsimony.specs.Written.{Each, entries}
use Rattle.parsimony.proofs.Demand2.{column_count}
use Rattle.promises.specs.CallRules.{
  table_rules,
  which_rule,
  room_rule,
  Allowed,
  ColumnAsked,
  UnitTable,
  Fits,
  FitsWork,
  label_rules,
  sets_rules,
  hand_up_rules,
}
use Rattle.promises.specs.CallWrites.{StatesOf, SetsOf, EntriesOf}
use Rattle.promises.specs.Input.{Input, input, nodes, column}
use Rattle.promises.specs.Promises.{
  Scored,
  ColumnCalled,
  Labelled,
  SetsFound,
  HandedUp,
  ColumnWorked,
  CountedBySets,
}
use Rattle.promises.specs.RowRoom.{Worked}
use Rattle.promises.specs.Rules.{Rule, All}
use Rattle.promises.specs.Starts.{StateStart, SetStart, labels_for, sets_for}
use Rattle.std.specs.Prelude.{Ok}
use Rattle.promises.specs.Input.{Start}
use Rattle.std.specs.Prelude.{None}
use Rattle.std.specs.Prelude.{Ok}
use Rattle.promises.proofs.Meaning.{score_right, entry_right, labelling_right, set_right}
use Rattle.promises.proofs.RuleLaws.{rules_of, score_rules_lem, count_rules_lem}
use Rattle.promises.proofs.WriteLaws.{list_made, row_room_made, written_right}

-- the row room after scoring c columns: the rows of the last, or as it was if there is none
last_made : (I : Input) (rows : List ℕ) → nodes I * I.s ≤ length rows → (c : ℕ)
    → (after : List ℕ) × (c ≡ 0 → after ≡ rows) × ((j : ℕ) → suc j ≡ c → Worked I j rows after)
last_made I rows fits zero = (rows, λ e. refl, λ j e. absurd (omega arith))
last_made I rows fits (suc k) =
    let (after, room) = row_room_made (row (column I k)) (nodes I) I.s rows fits in
    (after, λ e. absurd (omega arith), λ j e. subst (λ i. Worked I i rows after) (sym (suc_inj e)) room)

module _ (I : Input) (table : Allowed I) where
  -- Scoring can be done; what it leaves are the scores by rows.
  pub score_done : (scores rows : List ℕ) → Fits I I.c (length scores) (length rows)
      → (scores' : List ℕ) × (rows' : List ℕ) × Scored I scores rows (Ok tt) scores' rows'
      × Each I.c (λ j k. k ≡ score (column I j)) (entries scores')
  score_done scores rows room =
      let (scores', written) = list_made I.c (λ j. score (column I j)) scores room.output_room in
      let (rows', none, last) = last_made I rows room.row_room I.c in (
        scores',
        rows',
        record {
          answer = record { given = score_rules_lem I (length scores) (length rows) table room };
          lists = record {
            each = written_right written (λ j h. score_right I table j h (entries scores' j) (written.right j h));
            none = none;
            last = last;
          };
        },
        written.right,
      )

  module _ (j : ℕ) (inside : j < I.c) where
    -- the states from a start, the sets from a start, and the rows can be written
    states_made : (start : Start) → StateStart I j start → (states : List ℕ) → nodes I ≤ length states
        → (states' : List ℕ) × StatesOf I j start states states'
        × Each (nodes I) (λ v x. x ≡ labels_for (column I j) start v) (entries states')
    states_made start may states room =
        let (states', written) = list_made (nodes I) (labels_for (column I j) start) states room in (
          states',
          written_right written (labelling_right I table j inside start (entries states') may written.right),
          written.right,
        )

    sets_made : (start : Start) → SetStart I j start → (sets : List ℕ) → nodes I ≤ length sets
        → (sets' : List ℕ) × SetsOf I j start sets sets'
        × Each (nodes I) (λ v w. w ≡ sets_for (column I j) start v) (entries sets')
    sets_made start may sets room =
        let (sets', written) = list_made (nodes I) (sets_for (column I j) start) sets room in (
          sets',
          written_right written
              (λ v h. set_right I table j inside start v (entries sets' v) may h (written.right v h)),
          written.right,
        )

    worked_made : (rows : List ℕ) → nodes I * I.s ≤ length rows → (rows' : List ℕ) × Worked I j rows rows'
    worked_made rows room = row_room_made (row (column I j)) (nodes I) I.s rows room

    -- a call on the column is done where its rules hold and its output is written
    column_done : (rules : ℕ → ℕ → List Rule) (Output : List ℕ → List ℕ → Type 0) (out rows out' : List ℕ)
        → All (rules (length out) (length rows)) → nodes I * I.s ≤ length rows → Output out out'
        → (rows' : List ℕ) × ColumnCalled rules I j Output out rows (Ok tt) out' rows'
    column_done rules Output out rows out' all room output =
        let (rows', worked) = worked_made rows room in
        (rows', record { answer = record { given = all }; lists = record { output = output; worked = worked } })

    -- the rules of a call hold where its start may be given and there is room
    asked_rules : (May : Input → ℕ → Start → Type 0) (start : Start) {Room : Type 0} → May I j start → Room
        → All (table_rules I ++ (which_rule (ColumnAsked May I j start) ∷ room_rule Room ∷ []))
    asked_rules May start may room =
        rules_of I _ _ (record { table = table; which = record { inside = inside; may = may }; room = room })

    -- Handing up can be done; what it leaves is the root's row.
    pub hand_up_done : (out rows : List ℕ) → Fits I I.s (length out) (length rows)
        → (out' : List ℕ) × (rows' : List ℕ) × HandedUp I j out rows (Ok tt) out' rows'
        × Each I.s (λ x e. e ≡ row (column I j) (nodes I - 1) x) (entries out')
    unfolding column_of
    hand_up_done out rows room =
        let (out', written) = list_made I.s (row (column I j) (nodes I - 1)) out room.output_room in
        let (rows', done) =
        column_done (hand_up_rules I j) (EntriesOf I j) out rows out'
        (rules_of I _ _ (record { table = table; which = inside; room = room })) room.row_room
        (written_right written (λ x h. entry_right I table j inside x (entries out' x) h (written.right x h))) in
        (out', rows', done, written.right)

    -- Labelling from a start can be done; what it leaves is the labelling by rows.
    pub label_done : (start : Start) → StateStart I j start → (states rows : List ℕ)
        → Fits I (nodes I) (length states) (length rows)
        → (states' : List ℕ) × (rows' : List ℕ) × Labelled I j start states rows (Ok tt) states' rows'
        × Each (nodes I) (λ v x. x ≡ labels_for (column I j) start v) (entries states')
    label_done start may states rows room =
        let (states', labels, same) = states_made start may states room.output_room in
        let (rows', done) =
        column_done (label_rules I j start) (StatesOf I j start) states rows states'
        (asked_rules StateStart start may room) room.row_room labels in
        (states', rows', done, same)

    -- The call for the sets from a start can be done; what it leaves are the sets by rows.
    pub sets_done : (start : Start) → SetStart I j start → (sets rows : List ℕ)
        → Fits I (nodes I) (length sets) (length rows)
        → (sets' : List ℕ) × (rows' : List ℕ) × SetsFound I j start sets rows (Ok tt) sets' rows'
        × Each (nodes I) (λ v w. w ≡ sets_for (column I j) start v) (entries sets')
    sets_done start may sets rows room =
        let (sets', each, same) = sets_made start may sets room.output_room in
        let (rows', done) =
        column_done (sets_rules I j start) (SetsOf I j start) sets rows sets'
        (asked_rules SetStart start may room) room.row_room each in
        (sets', rows', done, same)

    -- The whole work on a column can be done, and its number is the score by rows.
    pub work_done : (states sets rows : List ℕ) → FitsWork I (length states) (length sets) (length rows)
        → (states' : List ℕ) × (sets' : List ℕ) × (rows' : List ℕ)
        × ColumnWorked I j states sets rows (Ok (score (column I j))) states' sets' rows'
    work_done states sets rows room =
        let (states', labels, same_labels) = states_made None tt states room.state_room in
        let (sets', each, same_sets) = sets_made None tt sets room.set_room in
        let (rows', worked) = worked_made rows room.row_room in (
          states',
          sets',
          rows',
          record {
            answer = record { given = rules_of I _ _ (record { table = table; which = inside; room = room }) };
            lists = record {
              score = score_right I table j inside (score (column I j)) refl;
              labels = labels;
              each = each;
              worked = worked;
            };
          },
        )

-- Counting by sets can be done on a table with unit costs and no handed tip, and its number is the score by rows.
module _ (left right : List ℕ) (s : ℕ) (costs : List ℕ) (c : ℕ) (cells : List ℕ) where
  abbrev counted : Input
  counted = input left right s costs c cells []

  pub count_done : Allowed counted → UnitTable counted → (j : ℕ) → j < c → (sets : List ℕ)
      → nodes counted ≤ length sets
      → (sets' : List ℕ) × CountedBySets counted j sets (Ok (score (column counted j))) sets'
  count_done table unit j inside sets room =
      let (sets', written) = list_made (nodes counted) (λ v. (counted_at left right c cells j v).set) sets room in
      let same =
      column_count left right s costs c cells [] j table.legal table.costs table.cells table.handed inside
      unit.none unit.unit in (
        sets',
        record {
          answer = record {
            given =
                count_rules_lem left right s costs c cells j (length sets)
                (record { table = table; inside = inside; unit = unit; room = room });
          };
          lists = record {
            each = written;
            count = sym same.0;
            score = score_right counted table j inside (score (column counted j)) refl;
          };
        },
      )

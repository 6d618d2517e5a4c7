-- What the tests of room tell.
-- Assumes nothing.
use mathlib.Core.Bool.{Bool}
use Prim.Native.Nat.{ℕ, ◌*◌, ◌≤◌}
use Rattle.parsimony.specs.Tells.{Tells}
use Rattle.parsimony.proofs.TellsLaws.{tells_same}
use Rattle.promises.specs.CallRules.{Fits, FitsWork}
use Rattle.promises.specs.Input.{Input, nodes}

module _ (I : Input) {needed output rows : ℕ} {b : Bool} (told : Tells ((needed ≤ output) × (nodes I * I.s ≤ rows)) b)
  where
    -- room for an output and for the rows
    pub fits_tell : Tells (Fits I needed output rows) b
    fits_tell = tells_same (λ fit. record { output_room = fit.0; row_room = fit.1 })
        (λ fits. (fits.output_room, fits.row_room)) told

-- where there is room for the states, room for the sets and for the rows decides
pub work_tell : (I : Input) {states sets rows : ℕ} {b : Bool} → nodes I ≤ states
    → Tells ((nodes I ≤ sets) × (nodes I * I.s ≤ rows)) b → Tells (FitsWork I states sets rows) b
work_tell I states =
    tells_same (λ fit. record { state_room = states; set_room = fit.0; row_room = fit.1 })
    (λ fits. (fits.set_room, fits.row_room))

-- `map_bytes` meets its contract: what the function makes of the bytes before this one is written.
-- Assumes nothing.
use Rattle.std.proofs.Common.{◌≡◌, length, take}
use Rattle.std.specs.List.{AllZip}
use Rattle.report_text.proofs.map_bytes.Given as goal

abbrev pub invariant-loop-i : goal.invariant-loop-i
invariant-loop-i g l =
    (length l.room ≡ length l.text) × AllZip (goal.F-post g l.f) (take l.i l.text) (take l.i l.room)

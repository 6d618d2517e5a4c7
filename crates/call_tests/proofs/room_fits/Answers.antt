-- `room_fits` meets its contract: the entries of all rows are at most 1,023 times 16.
-- Assumes nothing.
use Rattle.std.proofs.Common.{◌*◌, ◌≤◌, arith}
use native.Mathlib.Nat.{mul-le-mul}
use Rattle.promises.proofs.SoundLaws.{allowed_known}
use Rattle.promises.specs.Input.{input_of, nodes}
use Rattle.call_tests.proofs.room_fits.Goals as goal

pub overflow_mul-result : goal.overflow_mul-result
overflow_mul-result c =
    let I = input_of c.args.sound.now.table in
    let rules = allowed_known _ c.args.sound.now.allowed in
    let all : nodes I * I.s ≤ 1023 * 16 = mul-le-mul rules.legal.size.most rules.costs.most in
    omega arith

-- `set_start` meets its contract: a set below 2^s holds states below s.
-- Assumes nothing.
use Rattle.std.proofs.Common.{ℕ, ◌^◌, ◌<◌, ◌≤◌, subst, arith}
use Rattle.std.proofs.Math.Pow.{pow_mono}
use Rattle.parsimony.specs.Limits.{most_states}
use Rattle.promises.proofs.SoundLaws.{allowed_known}
use Rattle.states.proofs.Words.{shifted_power}
use Rattle.call_starts.proofs.StartLaws.{set_high}
use Rattle.call_starts.proofs.set_start.Goals as goal

-- a set of states below s fits a cell
cell_fits : (s w : ℕ) → s ≤ most_states → w < 2 ^ s → w < 65536
cell_fits s w most within = let most : 2 ^ s ≤ 65536 = pow_mono most in omega arith

pub overflow_cast-set : goal.overflow_cast-set
overflow_cast-set c =
    let most = (allowed_known _ c.args.sound.now.allowed).costs.most in
    let small = cell_fits _ _ most (subst (λ p. c.in-Some.set < p) (shifted_power 64 _ (omega arith)) c.if-set-sound.true) in
    omega arith

pub returns-in-Some-2 : goal.returns-in-Some-2
returns-in-Some-2 c =
    let most = (allowed_known _ c.args.sound.now.allowed).costs.most in
    set_high _ _ _ _ c.in-Some.is (subst (λ p. p ≤ c.in-Some.set) (shifted_power 64 _ (omega arith)) c.if-set-sound.false)

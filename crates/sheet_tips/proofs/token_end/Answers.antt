-- `token_end` meets its contract: the name ends at the first byte that may not stand in one.
-- Assumes nothing.
use Prim.Native.Nat.{◌+◌}
use mathlib.Core.Path.{ap, ◌∙◌}
use native.Mathlib.Omega.{arith}
use Rattle.std.proofs.Common.{⊎_elim}
use Rattle.sheet_tips.proofs.TokenLaws.{token_length, token_small}
use Rattle.sheet_tips.proofs.token_end.Goals as goal

pub overflow_add-result : goal.overflow_add-result
overflow_add-result c =
    let e =
    ap (λ k. c.args.at + k) c.unwrap_or.ensures
    ∙ token_length _ _ _ c.rest_from-rest.ensures c.first_other.ensures in
    ⊎_elim (λ h. omega (arith, e)) (λ h. omega (arith, e)) (token_small c.args.sheet.now c.args.at)

pub returns : goal.returns
returns c =
    ap (λ k. c.args.at + k) c.unwrap_or.ensures
    ∙ token_length _ _ _ c.rest_from-rest.ensures c.first_other.ensures

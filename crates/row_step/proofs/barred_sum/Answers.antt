-- `barred_sum` meets its contract: a barred term saturates, and two terms that are not barred do not.
-- Assumes nothing.
use Rattle.std.proofs.Common.{arith}
use Rattle.parsimony.specs.Barred.{barred}
use Rattle.parsimony.proofs.BarredLaws.{plus_left, plus_right, plus_open}
use Rattle.parsimony.proofs.Order.{by_eq}
use Rattle.row_step.proofs.barred_sum.Goals as goal

pub returns : goal.returns
returns c =
    let a = c.args.a in
    let b = c.args.b in
    by_eq a barred (λ bar. let e = plus_left a b bar in omega arith)
    (λ free. by_eq b barred (λ bar. let e = plus_right a b bar in omega arith)
    (λ free'. let small = c.requires.0 free in
    let small' = c.requires.1 free' in
    let e = plus_open a b free free' in
    omega arith))

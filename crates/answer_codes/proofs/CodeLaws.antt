-- Packing loses nothing: from a code the number and what is carried are read back; what is carried is small.
-- Assumes nothing.
use mathlib.Core.List.{List, ◌∷◌}
use mathlib.Core.Path.{◌≡◌}
use Prim.Native.Nat.{ℕ, ◌/◌, ◌%◌, ◌<◌}
use native.Mathlib.Omega.{arith}
use Rattle.promises.specs.Answers.{number_of, carried_by, Given}
use Rattle.promises.specs.CallRules.{size_rule}
use Rattle.promises.specs.Input.{Input}
use Rattle.promises.specs.Rules.{Rule}
use Rattle.promises.specs.Answers.{Answer}
use Rattle.std.specs.Prelude.{Ok, Err}
use Rattle.promises.specs.declared.Refusal.TheVariants.{Size, Shape, Costs, Cells, Rows, Which, NotUnit, Room}
use Rattle.promises.proofs.RuleLaws.{first_past}
use Rattle.answer_codes.specs.Codes.{packed, answer_code}

-- the low 8 bits are the number
pub packed_number : (number carried : ℕ) → number < 256 → packed number carried % 256 ≡ number
packed_number number carried small = omega arith

-- the rest is what is carried
pub packed_carried : (number carried : ℕ) → number < 256 → packed number carried / 256 ≡ carried
packed_carried number carried small = omega arith

-- every number is small
pub number_small : (a : Answer) → number_of a < 256
number_small (Ok u) = omega arith
number_small (Err Size) = omega arith
number_small (Err (Shape v)) = omega arith
number_small (Err Costs) = omega arith
number_small (Err Cells) = omega arith
number_small (Err Rows) = omega arith
number_small (Err Which) = omega arith
number_small (Err NotUnit) = omega arith
number_small (Err Room) = omega arith

-- so an answer's number and what it carries are read back from its code
pub code_number : (a : Answer) → answer_code a % 256 ≡ number_of a
code_number a = packed_number (number_of a) (carried_by a) (number_small a)

pub code_carried : (a : Answer) → answer_code a / 256 ≡ carried_by a
code_carried a = packed_carried (number_of a) (carried_by a) (number_small a)

-- under rules that begin with SIZE's, what an answer carries is below 1,023
pub carried_small : (I : Input) (more : List Rule) (a : Answer) → Given (size_rule I ∷ more) I a → carried_by a < 1023
carried_small I more (Ok u) g = omega arith
carried_small I more (Err Size) g = omega arith
carried_small I more (Err (Shape v)) g =
    let within = g.given.1.within in
    let most = (first_past (size_rule I) more 2 g.given.0 (λ same. omega arith)).most in
    omega arith
carried_small I more (Err Costs) g = omega arith
carried_small I more (Err Cells) g = omega arith
carried_small I more (Err Rows) g = omega arith
carried_small I more (Err Which) g = omega arith
carried_small I more (Err NotUnit) g = omega arith
carried_small I more (Err Room) g = omega arith

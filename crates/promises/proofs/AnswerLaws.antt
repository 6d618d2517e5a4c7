-- Laws of answers: how they are given, and that one only is.
-- Assumes nothing.
use mathlib.Core.Bool.{Bool, true, false}
use mathlib.Core.List.{List, ◌∷◌, ◌++◌}
use mathlib.Core.Path.{◌≡◌, refl, ap, ap₂, sym, ◌∙◌, subst}
use Prim.Native.Nat.{ℕ}
use lib.Dec.{eqb}
use Rattle.parsimony.specs.Fault.{LowestFault}
use Rattle.parsimony.specs.Test.{pick}
use Rattle.parsimony.proofs.ShapeLaws.{fault_unique}
use Rattle.promises.specs.Answers.{refusal_number, refusal_value, Carries, GivenFor, Given}
use Rattle.promises.specs.Input.{Input, nodes, node_in}
use Rattle.promises.specs.Rules.{Rule, All, First}
use Rattle.promises.specs.Answers.{Answer}
use Rattle.std.specs.Prelude.{Ok, Err}
use Rattle.promises.specs.declared.Refusal.{Refusal}
use Rattle.promises.specs.declared.Refusal.TheVariants.{Size, Shape, Costs, Cells, Rows, Which, NotUnit, Room}
use Rattle.promises.proofs.RuleLaws.{first_here, first_more, first_unique, all_not_first}

-- a rule that does not hold, after rules that do, is refused with its number
pub refused_here : (Rs Qs : List Rule) (R : Rule) (I : Input) (r : Refusal) → All Rs → (R.asks → ⊥)
    → R.number ≡ refusal_number r → Carries I r → Given (Rs ++ (R ∷ Qs)) I (Err r)
refused_here Rs Qs R I r all fails number carries =
    record { given = (subst (λ k. First (Rs ++ (R ∷ Qs)) k) number (first_here Rs Qs R all fails), carries) }

-- a refusal stays the answer where more rules follow
pub refused_more : (Rs Qs : List Rule) (I : Input) (r : Refusal) → Given Rs I (Err r)
    → Given (Rs ++ Qs) I (Err r)
refused_more Rs Qs I r g = record { given = (first_more Rs Qs (refusal_number r) g.given.0, g.given.1) }

-- what is given is given under the name of its case
pub given_same : {rules : List Rule} {I : Input} {a b : Answer} → Given rules I a → a ≡ b → Given rules I b
given_same {rules} {I} g e = subst (Given rules I) e g

-- where the answer is done all rules hold
pub done_all : (rules : List Rule) (I : Input) (a : Answer) → Given rules I a → a ≡ Ok tt → All rules
done_all rules I a g e = subst (GivenFor rules I) e g.given

-- where all rules hold nothing is refused
pub all_unrefused : (rules : List Rule) (I : Input) (r : Refusal) → All rules → Given rules I (Err r) → ⊥
all_unrefused rules I r all g = all_not_first rules (refusal_number r) all g.given.0

-- so the answer is done
pub all_done : (rules : List Rule) (I : Input) (a : Answer) → All rules → Given rules I a → a ≡ Ok tt
all_done rules I (Ok u) all g = refl
all_done rules I (Err r) all g = absurd (all_unrefused rules I r all g)

-- the refusal with this number that carries this value
abbrev refusal_of : ℕ → ℕ → Refusal
unfolding pick
refusal_of k v =
    pick (eqb k 1) Size
    (pick (eqb k 2) (Shape v)
    (pick (eqb k 3) Costs
    (pick (eqb k 4) Cells (pick (eqb k 5) Rows (pick (eqb k 6) Which (pick (eqb k 7) NotUnit Room))))))

refusal_is : (r : Refusal) → refusal_of (refusal_number r) (refusal_value r) ≡ r
unfolding refusal_of
refusal_is Size = refl
refusal_is (Shape v) = refl
refusal_is Costs = refl
refusal_is Cells = refl
refusal_is Rows = refl
refusal_is Which = refl
refusal_is NotUnit = refl
refusal_is Room = refl

-- v is what the refusal with this number carries
abbrev CarriedAs : Input → ℕ → ℕ → Type 0
unfolding pick
CarriedAs I k v = pick (eqb k 2) (LowestFault (nodes I) (node_in I) v) (v ≡ 0)

carried_as : (I : Input) (r : Refusal) → Carries I r → CarriedAs I (refusal_number r) (refusal_value r)
unfolding CarriedAs
carried_as I Size c = refl
carried_as I (Shape v) c = c
carried_as I Costs c = refl
carried_as I Cells c = refl
carried_as I Rows c = refl
carried_as I Which c = refl
carried_as I NotUnit c = refl
carried_as I Room c = refl

carried_unique : (I : Input) (k v w : ℕ) → CarriedAs I k v → CarriedAs I k w → v ≡ w
unfolding CarriedAs pick
carried_unique I k v w f g = by (eqb k 2) f g
  where
    by : (b : Bool) → pick b (LowestFault (nodes I) (node_in I) v) (v ≡ 0)
        → pick b (LowestFault (nodes I) (node_in I) w) (w ≡ 0) → v ≡ w
    by true f g = fault_unique (nodes I) (node_in I) v w f g
    by false f g = f ∙ sym g

-- two refusals with one number that carry what they should are the same
refusal_unique : (I : Input) (r q : Refusal) → refusal_number r ≡ refusal_number q → Carries I r → Carries I q → r ≡ q
refusal_unique I r q e f g =
    let here = subst (λ k. CarriedAs I k (refusal_value r)) e (carried_as I r f) in
    let same = carried_unique I (refusal_number q) (refusal_value r) (refusal_value q) here (carried_as I q g) in
    sym (refusal_is r) ∙ ap₂ refusal_of e same ∙ refusal_is q

-- under the same rules and for the same input one answer only is given
pub answer_unique : (rules : List Rule) (I : Input) (a b : Answer) → Given rules I a → Given rules I b → a ≡ b
answer_unique rules I (Ok u) (Ok w) f g = refl
answer_unique rules I (Ok u) (Err q) f g = absurd (all_not_first rules (refusal_number q) f.given g.given.0)
answer_unique rules I (Err r) (Ok u) f g = absurd (all_not_first rules (refusal_number r) g.given f.given.0)
answer_unique rules I (Err r) (Err q) f g =
    let number = first_unique rules (refusal_number r) (refusal_number q) f.given.0 g.given.0 in
    ap Err (refusal_unique I r q number f.given.1 g.given.1)

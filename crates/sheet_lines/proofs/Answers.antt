-- Answers of different kinds are different, and equal answers of one kind hold equal things.
-- Assumes nothing.
use mathlib.Core.Path.{◌≡◌, ap}
use Prim.Native.Nat.{ℕ}
use native.Mathlib.Omega.{arith}
use Rattle.std.proofs.Common.{Option, Some, None, Result, Ok, Err}
use Rattle.sheet_lines.specs.Section.{Item, item, fault}
use Rattle.sheet_lines.specs.declared.Fault.{Fault}

-- a line is not both an item and a fault
pub no_item : {A B : Type 0} {judged : Item B} {f : Fault} {b : B} {next : ℕ} → fault f ≡ judged
    → judged ≡ item b next → A
no_item h e = let z : ◌≡◌ {A = ℕ} 0 1 = cc in absurd (omega arith)

pub same_item : {B : Type 0} {judged : Item B} {a b : B} {i next : ℕ} → item a i ≡ judged
    → judged ≡ item b next → b ≡ a
same_item h e = cc

pub same_fault : {B : Type 0} {judged : Item B} {f g : Fault} → fault f ≡ judged → judged ≡ fault g → g ≡ f
same_fault h e = cc

-- a count line is not both a count and a fault
pub no_count : {A : Type 0} {count : Result (ℕ × ℕ) Fault} {f : Fault} {n next : ℕ} → Err f ≡ count
    → count ≡ Ok (n, next) → A
no_count h e = let z : ◌≡◌ {A = ℕ} 0 1 = cc in absurd (omega arith)

pub same_count : {n m i next : ℕ} → ◌≡◌ {A = Result (ℕ × ℕ) Fault} (Ok (n, i)) (Ok (m, next)) → (n ≡ m) × (i ≡ next)
same_count {n} {m} {i} {next} e =
    let p : ◌≡◌ {A = ℕ × ℕ} (n, i) (m, next) = cc in
    (ap (λ q. q.0) p, ap (λ q. q.1) p)

-- a number is not both none and one, and two numbers that are equal are so with the places after them
pub no_value : {A : Type 0} {p : Option (ℕ × ℕ)} {n next : ℕ} → None ≡ p → p ≡ Some (n, next) → A
no_value h e = let z : ◌≡◌ {A = ℕ} 0 1 = cc in absurd (omega arith)

pub same_value : {n m i next : ℕ} → ◌≡◌ {A = Option (ℕ × ℕ)} (Some (n, i)) (Some (m, next)) → (n ≡ m) × (i ≡ next)
same_value {n} {m} {i} {next} e =
    let p : ◌≡◌ {A = ℕ × ℕ} (n, i) (m, next) = cc in
    (ap (λ q. q.0) p, ap (λ q. q.1) p)

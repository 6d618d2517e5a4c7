-- No second outcome meets a promise of the C interface: the code, and every entry of every list lent.
-- Assumes nothing.
use mathlib.Core.List.{List}
use mathlib.Core.Path.{◌≡◌, ap, sym, ◌∙◌}
use Prim.Native.Nat.{ℕ}
use Rattle.promises.specs.Input.{Input}
use Rattle.promises.specs.Input.{Start}
use Rattle.promises.proofs.Outcomes.{score_outcome, label_outcome, sets_outcome, hand_up_outcome, count_outcome}
use Rattle.calls.specs.Coded.{Coded, ScoredCode, LabelledCode, SetsCode, HandedUpCode, CountCode}

-- where a promise has no second outcome, its code has none
coded_outcome : {A : Type 0} {pack : A → ℕ} {P Q : A → Type 0} {a b : ℕ} {Same : Type 0} (f : Coded pack P a)
    (g : Coded pack Q b) → (P f.answer → Q g.answer → (f.answer ≡ g.answer) × Same) → (a ≡ b) × Same
coded_outcome {pack = pack} f g outcome =
    let (same, lists) = outcome f.promise g.promise in
    (f.packed ∙ ap pack same ∙ sym g.packed, lists)

-- no second outcome of scoring
pub score_code_outcome : (I : Input) (scores rows : List ℕ) (a b : ℕ) (s1 r1 s2 r2 : List ℕ)
    → ScoredCode I scores rows a s1 r1 → ScoredCode I scores rows b s2 r2 → (a ≡ b) × ((s1 ≡ s2) × (r1 ≡ r2))
score_code_outcome I scores rows a b s1 r1 s2 r2 f g =
    coded_outcome f g (score_outcome I scores rows _ _ s1 r1 s2 r2)

-- no second outcome of labelling
pub label_code_outcome : (I : Input) (j : ℕ) (start : Start) (states rows : List ℕ) (a b : ℕ) (s1 r1 s2 r2 : List ℕ)
    → LabelledCode I j start states rows a s1 r1 → LabelledCode I j start states rows b s2 r2
    → (a ≡ b) × ((s1 ≡ s2) × (r1 ≡ r2))
label_code_outcome I j start states rows a b s1 r1 s2 r2 f g =
    coded_outcome f g (label_outcome I j start states rows _ _ s1 r1 s2 r2)

-- no second outcome of the set call
pub sets_code_outcome : (I : Input) (j : ℕ) (start : Start) (sets rows : List ℕ) (a b : ℕ) (s1 r1 s2 r2 : List ℕ)
    → SetsCode I j start sets rows a s1 r1 → SetsCode I j start sets rows b s2 r2 → (a ≡ b) × ((s1 ≡ s2) × (r1 ≡ r2))
sets_code_outcome I j start sets rows a b s1 r1 s2 r2 f g =
    coded_outcome f g (sets_outcome I j start sets rows _ _ s1 r1 s2 r2)

-- no second outcome of handing up
pub hand_up_code_outcome : (I : Input) (j : ℕ) (row rows : List ℕ) (a b : ℕ) (s1 r1 s2 r2 : List ℕ)
    → HandedUpCode I j row rows a s1 r1 → HandedUpCode I j row rows b s2 r2 → (a ≡ b) × ((s1 ≡ s2) × (r1 ≡ r2))
hand_up_code_outcome I j row rows a b s1 r1 s2 r2 f g =
    coded_outcome f g (hand_up_outcome I j row rows _ _ s1 r1 s2 r2)

-- no second outcome of counting by sets
pub count_code_outcome : (I : Input) (j : ℕ) (sets : List ℕ) (a b : ℕ) (s1 s2 : List ℕ) → CountCode I j sets a s1
    → CountCode I j sets b s2 → (a ≡ b) × (s1 ≡ s2)
count_code_outcome I j sets a b s1 s2 f g =
    coded_outcome f g (count_outcome I j sets _ _ s1 s2)

-- The letters of the labels: how many, what they depend on, and how they are put one after the other.
-- Assumes nothing.
use mathlib.Core.List.{List, [], ◌∷◌, ◌++◌}
use mathlib.Core.Path.{◌≡◌, refl, ap, ap₂, sym, ◌∙◌, subst}
use Prim.Native.Nat.{ℕ, zero, suc, ◌+◌, ◌≤◌, ◌<◌}
use native.Mathlib.Omega.{arith}
use lib.ListN.{length, length-append, get_or, take}
use Rattle.std.proofs.Common.{length-take-le, get_or-take}
use Rattle.std.specs.List.{AllZip}
use Rattle.report_text.specs.Mapped.{Mapped}
use Rattle.report_text.specs.Puts.{Puts}
use Rattle.report_text.specs.declared.Text.{Text}
use Rattle.report_marks.specs.Letters.{letter_of, letters}

-- a letter for each node
pub letters_length : (l : ℕ → ℕ) (n : ℕ) → length (letters l n) ≡ n
unfolding letters
letters_length l zero = refl
letters_length l (suc n) =
    let low = letters_length l n in
    let long = length-append (letters l n) (letter_of (l n) ∷ []) in
    omega arith

-- by the labels of the nodes below n alone
pub letters_same : (l m : ℕ → ℕ) (n : ℕ) → ((v : ℕ) → v < n → l v ≡ m v) → letters l n ≡ letters m n
unfolding letters
letters_same l m zero same = refl
letters_same l m (suc n) same =
    ap₂ (λ low top. low ++ (letter_of top ∷ [])) (letters_same l m n (λ v h. same v (omega arith)))
    (same n (omega arith))

-- one node more
pub letters_more : (l : ℕ → ℕ) (n : ℕ) → letters l (n + 1) ≡ letters l n ++ (letter_of (l n) ∷ [])
unfolding letters
letters_more l n = let next : n + 1 ≡ suc n = omega arith in ap (letters l) next

-- the first letter, and then the others
letters_first : (l : ℕ → ℕ) (n : ℕ) → letters l (suc n) ≡ letter_of (l 0) ∷ letters (λ v. l (suc v)) n
unfolding letters
letters_first l zero = refl
letters_first l (suc n) = ap (λ low. low ++ (letter_of (l (suc n)) ∷ [])) (letters_first l n)

-- what makes a letter of each state makes the letters
letters_made : (f : ℕ → ℕ → Type 0) → ((x y : ℕ) → f x y → y ≡ letter_of x) → (states made : List ℕ)
    → AllZip f states made → made ≡ letters (λ v. get_or states v 0) (length states)
unfolding letters
letters_made f is [] [] each = refl
letters_made f is [] (y ∷ made) each = absurd each
letters_made f is (x ∷ states) [] each = absurd each
letters_made f is (x ∷ states) (y ∷ made) (first, each) =
    ap₂ (λ letter more. letter ∷ more) (is x y first) (letters_made f is states made each)
    ∙ sym (letters_first (λ v. get_or (x ∷ states) v 0) (length states))

-- and puts them after a text
pub letters_mapped : (f : ℕ → ℕ → Type 0) → ((x y : ℕ) → f x y → y ≡ letter_of x) → (states : List ℕ) (t t' : Text)
    → Mapped f states t t' → Puts (letters (λ v. get_or states v 0) (length states)) t t'
letters_mapped f is states t t' (made, each, put) =
    subst (λ bytes. Puts bytes t t') (letters_made f is states made each) put

-- the letters of the first n states of a list
pub letters_taken : (states : List ℕ) (n : ℕ) → n ≤ length states
    → letters (λ v. get_or (take n states) v 0) (length (take n states)) ≡ letters (λ v. get_or states v 0) n
letters_taken states n inside =
    ap (letters (λ v. get_or (take n states) v 0)) (length-take-le n states inside)
    ∙ letters_same _ _ n (λ v h. get_or-take n states v 0 h)

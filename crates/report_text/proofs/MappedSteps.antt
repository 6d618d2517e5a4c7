-- What a function makes of the bytes of a text, one after the other.
-- Assumes nothing.
use Rattle.std.proofs.Common.{◌≡◌, ℕ, suc, ◌+◌, ◌<◌, ◌≤◌, List, [], ◌∷◌, ◌++◌}
use Rattle.std.proofs.Common.{length, get_or, set, take, ap, sym, subst, ◌∙◌, arith}
use Rattle.std.specs.List.{AllZip}
use Rattle.std.proofs.Math.Seq.{take-suc, take_all}
use Rattle.std.proofs.lemmas.List.{take_more_set}
use Rattle.std.proofs.lemmas.List.Elements.{AllZip-push}

-- one byte more
pub mapped_next : (f : ℕ → ℕ → Type 0) (text room : List ℕ) (i byte : ℕ) → i < length text
    → i < length room → f (get_or text i 0) byte → AllZip f (take i text) (take i room)
    → AllZip f (take (i + 1) text) (take (i + 1) (set room i byte))
mapped_next f text room i byte inside fits is each =
    subst (λ t. AllZip f t (take (i + 1) (set room i byte)))
    (sym (let same : i + 1 ≡ suc i = omega arith in ap (λ k. take k text) same ∙ take-suc text i 0 inside))
    (subst (AllZip f (take i text ++ get_or text i 0 ∷ [])) (sym (take_more_set room i byte fits))
    (AllZip-push f (take i text) (take i room) (get_or text i 0) byte each is))

-- until all of the text is done
pub mapped_all : (f : ℕ → ℕ → Type 0) (text room : List ℕ) (i : ℕ) → length text ≤ i → length room ≤ i
    → AllZip f (take i text) (take i room) → AllZip f text room
mapped_all f text room i all full each =
    subst (λ t. AllZip f t room) (take_all i text all)
    (subst (AllZip f (take i text)) (take_all i room full) each)

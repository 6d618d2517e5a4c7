-- A word of the sheet is the word that the bytes from its place on start with.
-- Assumes nothing.
use mathlib.Core.Bool.{true, false}
use mathlib.Core.List.{List, [], ◌∷◌}
use mathlib.Core.Path.{◌≡◌, refl, sym, ap, ◌∙◌}
use Prim.Native.Nat.{ℕ, ◌+◌}
use native.Mathlib.Nat.{add-zero}
use native.Mathlib.Omega.{arith}
use borrow.Author.Tests.{eq-eqb, ne_eqb}
use lib.Dec.{eqb}
use lib.ListN.{length, drop}
use Rattle.std.proofs.Common.{Option, Some, None}
use Rattle.std.specs.List.{starts_with}
use Rattle.sheet_lines.specs.Word.{word_in, word_of}
use Rattle.parsimony.proofs.Order.{by_eq}
use Rattle.parsimony.specs.Test.{pick}

word_in_starts : (word bytes : List ℕ) (i : ℕ)
    → word_in word bytes i ≡ pick (starts_with eqb bytes word) (Some (i + length word)) None
unfolding word_in pick
word_in_starts [] bytes i = ap (λ k. Some k) (sym (add-zero i))
word_in_starts (letter ∷ word) [] i = refl
word_in_starts (letter ∷ word) (byte ∷ more) i =
    by_eq byte letter
    (λ same.
    rw (eq-eqb byte letter same, eq-eqb letter byte (sym same))
    (word_in_starts word more (i + 1)
    ∙ ap (λ k. pick {A = Option ℕ} (starts_with eqb more word) (Some k) None) (omega arith)))
    (λ other. rw (ne_eqb byte letter other, ne_eqb letter byte (λ e. other (sym e))))

module _ (word sheet rest : List ℕ) (at : ℕ) (here : rest ≡ drop at sheet) where
  -- the sheet has the word at the place
  pub word_starts : starts_with eqb rest word ≡ true → Some (at + length word) ≡ word_of word sheet at
  unfolding word_of pick
  word_starts e =
      let s = ap (λ r. starts_with eqb r word) here in
      sym (rw (sym s ∙ e) at (word_in_starts word (drop at sheet) at))

  -- it has another text there
  pub word_other : starts_with eqb rest word ≡ false → None ≡ word_of word sheet at
  unfolding word_of pick
  word_other e =
      let s = ap (λ r. starts_with eqb r word) here in
      sym (rw (sym s ∙ e) at (word_in_starts word (drop at sheet) at))

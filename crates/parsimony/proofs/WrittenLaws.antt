-- Laws of what is written into a list that is lent: entry by entry from a place on, and that it can be written in one
-- way only.
-- Assumes nothing.
use mathlib.Core.List.{List}
use mathlib.Core.Path.{◌≡◌, refl, ap, sym, ◌∙◌, subst}
use Prim.Native.Nat.{ℕ, ◌+◌, ◌<◌}
use native.Mathlib.Omega.{arith}
use lib.ListN.{length, set, length-set}
use lib.Seq.{ext_get_or, get_or-set_same, get_or-set_other}
use Rattle.parsimony.specs.Written.{Written, entries, Below, Each, Wrote}
use Rattle.parsimony.proofs.Order.{by_eq, by_lt}

-- two lists that are written at the first n places alone are the same if they are the same there
pub written_same : {n : ℕ} {Right Other : (ℕ → ℕ) → Type 0} {before l m : List ℕ} → Written (Below n) Right before l
    → Written (Below n) Other before m → ((i : ℕ) → i < n → entries l i ≡ entries m i) → l ≡ m
written_same {n} {l = l} {m = m} f g same =
    ext_get_or 0 l m (f.long ∙ sym g.long)
    (λ i h. by_lt i n (same i) (λ over. f.kept i (λ here. omega arith) ∙ sym (g.kept i (λ here. omega arith))))

-- ---- from the front: each entry is right for its place

-- nothing is written at the start
pub entries_none : (right : ℕ → ℕ → Type 0) (l : List ℕ) → Written (Below 0) (Each 0 right) l l
entries_none right l = record { right = λ i h. absurd (omega arith); long = refl; kept = λ i none. refl }

-- one entry more
pub entries_more : (right : ℕ → ℕ → Type 0) (n v : ℕ) (before now : List ℕ) → Written (Below n) (Each n right) before now
    → n < length now → right n v → Written (Below (n + 1)) (Each (n + 1) right) before (set now n v)
entries_more right n v before now w h here =
    record {
      right = λ i k. by_eq i n
          (λ p. subst (λ m. right m (entries (set now n v) m)) (sym p)
          (subst (right n) (sym (get_or-set_same now n v 0 h)) here))
          (λ ne. subst (right i) (sym (get_or-set_other now n i v 0 ne)) (w.right i (omega arith)));
      long = length-set now n v ∙ w.long;
      kept = λ i none. get_or-set_other now n i v 0 (λ p. none (omega arith)) ∙ w.kept i (λ k. none (omega arith));
    }

-- ---- from a place on

-- nothing is written at the start
pub wrote_none : (at : ℕ) (f : ℕ → ℕ) (l : List ℕ) → Wrote at 0 f l l
wrote_none at f l = record { right = λ i h. absurd (omega arith); long = refl; kept = λ i none. refl }

-- one entry more
pub wrote_more : (at n v : ℕ) (f : ℕ → ℕ) (before now : List ℕ) → Wrote at n f before now → at + n < length now
    → v ≡ f n → Wrote at (n + 1) f before (set now (at + n) v)
wrote_more at n v f before now w h e =
    record {
      right = λ i k. by_eq i n
          (λ p. ap (λ m. entries (set now (at + n) v) (at + m)) p
          ∙ get_or-set_same now (at + n) v 0 h
          ∙ e
          ∙ ap f (sym p))
          (λ ne. get_or-set_other now (at + n) (at + i) v 0 (λ p. ne (omega arith)) ∙ w.right i (omega arith));
      long = length-set now (at + n) v ∙ w.long;
      kept = λ i none.
          get_or-set_other now (at + n) i v 0 (λ p. none (omega arith)) ∙ w.kept i (λ here. none (omega arith));
    }

-- the same entries by another name
pub wrote_same : (at n : ℕ) (f g : ℕ → ℕ) (before now : List ℕ) → Wrote at n f before now
    → ((i : ℕ) → i < n → f i ≡ g i) → Wrote at n g before now
wrote_same at n f g before now w h =
    record { right = λ i k. w.right i k ∙ h i k; long = w.long; kept = w.kept }

-- The loop over the columns: the scores of the columns below j are written, and the row room holds the last of them.
-- Assumes nothing.
use mathlib.Core.List.{List}
use mathlib.Core.Path.{◌≡◌, refl, ap, sym, ◌∙◌, subst}
use Prim.Native.Nat.{ℕ, zero, suc, ◌+◌, ◌*◌, ◌<◌}
use native.Mathlib.Omega.{arith}
use lib.ListN.{length, set}
use Rattle.parsimony.specs.Labelling.{IsScore}
use Rattle.parsimony.specs.Written.{Written, entries, Below, Each}
use Rattle.parsimony.proofs.WrittenLaws.{entries_none, entries_more}
use Rattle.promises.specs.CallWrites.{ScoresWritten}
use Rattle.promises.specs.Input.{Input, nodes, column}
use Rattle.promises.specs.RowRoom.{Worked}

-- the columns below j are scored
pub record ScoresTo (I : Input) (j : ℕ) (scores rows scores' rows' : List ℕ) : Type 0 where
  pub each : Written (Below j) (Each j (λ i. IsScore (column I i))) scores scores'
  pub long : length rows' ≡ length rows
  pub none : j ≡ 0 → rows' ≡ rows
  pub last : (i : ℕ) → suc i ≡ j → Worked I i rows rows'

-- at the start none is
pub scores_none : (I : Input) (scores rows : List ℕ) → ScoresTo I 0 scores rows scores rows
scores_none I scores rows =
    record {
      each = entries_none (λ i. IsScore (column I i)) scores;
      long = refl;
      none = λ e. refl;
      last = λ i e. absurd (omega arith);
    }

-- beyond the rows the row room is as it was
scores_over : (I : Input) (j : ℕ) (scores rows scores' rows' : List ℕ) → ScoresTo I j scores rows scores' rows'
    → (k : ℕ) → (k < nodes I * I.s → ⊥) → entries rows' k ≡ entries rows k
scores_over I zero scores rows scores' rows' t k over = ap (λ l. entries l k) (t.none refl)
scores_over I (suc i) scores rows scores' rows' t k over = (t.last i refl).kept k over

-- and one column more
pub scores_more : (I : Input) (j k : ℕ) (scores rows scores' rows' next : List ℕ)
    → ScoresTo I j scores rows scores' rows' → j < length scores' → IsScore (column I j) k → Worked I j rows' next
    → ScoresTo I (j + 1) scores rows (set scores' j k) next
scores_more I j k scores rows scores' rows' next t h right worked =
    record {
      each = entries_more (λ i. IsScore (column I i)) j k scores scores' t.each h right;
      long = worked.long ∙ t.long;
      none = λ e. absurd (omega arith);
      last = λ i e. let same : i ≡ j = omega arith in
          subst (λ z. Worked I z rows next) (sym same)
          (record {
            right = worked.right;
            long = worked.long ∙ t.long;
            kept = λ m over. worked.kept m over ∙ scores_over I j scores rows scores' rows' t m over;
          });
    }

-- all columns
pub scores_all : (I : Input) (j : ℕ) (scores rows scores' rows' : List ℕ) → ScoresTo I j scores rows scores' rows'
    → j ≡ I.c → ScoresWritten I scores rows scores' rows'
scores_all I j scores rows scores' rows' t e =
    record {
      each = subst (λ z. Written (Below z) (Each z (λ i. IsScore (column I i))) scores scores') e t.each;
      none = λ z. t.none (e ∙ z);
      last = λ i s. t.last i (s ∙ sym e);
    }

-- Counting the cells of a list, and the marks that follow from a count.
-- Assumes nothing.
use Rattle.std.proofs.Common.{
  ◌≡◌,
  ℕ,
  ◌+◌,
  ◌≤◌,
  ◌<◌,
  ◌==◌,
  cond,
  ltb,
  leb,
  Bool,
  true,
  false,
  List,
  [],
  ◌∷◌,
  length,
  take,
  refl,
  ap,
  sym,
  ◌∙◌,
  arith,
}
use Rattle.std.specs.List.{count_by}
use Rattle.std.proofs.lemmas.List.Recursion.{is_count_by}
use Rattle.std.proofs.lemmas.List.Sums.{sum_by-cons}
use borrow.Author.Tests.{lt-ltb, le-ltb, eq-eqb, ne_eqb}
use lib.Seq.{take_all}
use mir.Val.{bool_byte}
use Rattle.std.proofs.lemmas.Bool.{lt-leb, le-leb}
use Rattle.parsimony.specs.StateSet.{one}
use Rattle.parsimony.specs.Sum.{sum}
use Rattle.parsimony.specs.Test.{at, pick}
use Rattle.parsimony.proofs.Order.{by_eq, by_lt, at_same, at_other, pick_true, pick_false}
use Rattle.report_marks.specs.Quiet.{tally, often, quiet_mark}

-- whether a cell is the set w
at_cond : (w cell rest : ℕ) → at w 1 cell + rest ≡ cond (cell == w) (1 + rest) rest
at_cond w cell rest =
    by_eq cell w
    (λ e. let is = at_same w 1 cell (sym e) in
    let yes = ap (λ b. cond b (1 + rest) rest) (eq-eqb _ _ e) in
    omega arith)
    (λ ne. let is = at_other w 1 cell (λ e. ne (sym e)) in
    let no = ap (λ b. cond b (1 + rest) rest) (ne_eqb _ _ ne) in
    omega arith)

-- the cells of a list that are the set w
tally_count : (w : ℕ) (cells : List ℕ) → tally w cells ≡ count_by (λ cell. cell == w) cells
unfolding tally
tally_count w = is_count_by (tally w) (λ cell. cell == w) refl (λ cell cells. at_cond w cell (tally w cells))

-- all cells are counted
pub tally_all : (w : ℕ) (cells : List ℕ) {count i : ℕ} → length cells ≤ i
    → count ≡ count_by (λ cell. cell == w) (take i cells) → count ≡ tally w cells
tally_all w cells {i} over is =
    is ∙ ap (count_by (λ cell. cell == w)) (take_all i cells over) ∙ sym (tally_count w cells)

-- whether a base occurs often, by its count
pub often_no : (cells : List ℕ) (x : ℕ) → tally (one x) cells < 2 → 0 ≡ often cells x
unfolding often
often_no cells x few = sym (pick_true _ _ (lt-ltb (tally (one x) cells) 2 few))

pub often_yes : (cells : List ℕ) (x : ℕ) → 2 ≤ tally (one x) cells → 1 ≡ often cells x
unfolding often
often_yes cells x many = sym (pick_false _ _ (le-ltb (tally (one x) cells) 2 many))

-- base x, whose plain set is w, is counted where it occurs often
often_counted : (cells : List ℕ) (x w : ℕ) (bases : List ℕ) → w ≡ one x
    → count_by (λ base. leb 2 (tally base cells)) (w ∷ bases)
    ≡ often cells x + count_by (λ base. leb 2 (tally base cells)) bases
often_counted cells x w bases plain =
    let same = ap (λ u. tally u cells) plain in
    let rest = count_by (λ base. leb 2 (tally base cells)) bases in
    sum_by-cons (λ base. cond (leb 2 (tally base cells)) 1 0) w bases
    ∙ by_lt (tally w cells) 2
    (λ few. let no = often_no cells x (omega arith) in
    ap (λ b. cond b 1 0 + rest) (lt-leb 2 _ few) ∙ omega arith)
    (λ many. let yes = often_yes cells x (omega arith) in
    ap (λ b. cond b 1 0 + rest) (le-leb 2 _ many) ∙ omega arith)

-- the plain bases that occur often, one by one
bases_counted : (cells : List ℕ)
    → count_by (λ base. leb 2 (tally base cells)) (1 ∷ 2 ∷ 4 ∷ 8 ∷ []) ≡ sum (often cells) 4
unfolding sum one
bases_counted cells =
    let a = often_counted cells 0 1 (2 ∷ 4 ∷ 8 ∷ []) refl in
    let c = often_counted cells 1 2 (4 ∷ 8 ∷ []) refl in
    let g = often_counted cells 2 4 (8 ∷ []) refl in
    let t = often_counted cells 3 8 [] refl in
    omega arith

-- 1 where a test holds, else 0
test_byte : (b : Bool) → bool_byte b ≡ pick b 1 0
unfolding pick
test_byte true = refl
test_byte false = refl

-- the mark, by the count of the plain bases that occur often
pub quiet_is : (cells : List ℕ) {bases : List ℕ} {count i : ℕ} → bases ≡ 1 ∷ 2 ∷ 4 ∷ 8 ∷ [] → length bases ≤ i
    → count ≡ count_by (λ base. leb 2 (tally base cells)) (take i bases)
    → bool_byte (ltb count 2) ≡ quiet_mark cells
unfolding quiet_mark
quiet_is cells {bases} {i = i} four over is =
    test_byte _
    ∙ ap (λ n. pick (ltb n 2) 1 0)
    (is ∙ ap (count_by (λ base. leb 2 (tally base cells))) (take_all i bases over ∙ four) ∙ bases_counted cells)

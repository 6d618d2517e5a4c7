-- Tree text in the paper's words: a line is read exactly when it is the text of a tree, and then as that tree.
-- Assumes nothing.
use mathlib.Core.List.{List}
use mathlib.Core.Path.{◌≡◌, ap, ap₂, sym, ◌∙◌}
use Prim.Native.Char.{code}
use Prim.Native.Nat.{ℕ, ◌+◌, ◌*◌, ◌≤◌}
use native.Mathlib.Omega.{arith}
use borrow.Author.Tests.{eq-eqb}
use lib.Dec.{eqb}
use lib.ListN.{length, get_or}
use Rattle.parsimony.specs.Sum.{sum}
use Rattle.parsimony.specs.Test.{pick, both}
use Rattle.parsimony.proofs.Order.{by_lt, pick_true, at_other}
use Rattle.parsimony.proofs.Sums.{sum_same}
use Rattle.parsimony.proofs.TipLaws.{sum_ones}
use Rattle.sheet_names.specs.Name.{is_name_byte}
use Rattle.sheet_tips.specs.Marks.{unmarked}
use Rattle.sheet_tips.specs.Tip.{got, no_tree}
use Rattle.sheet_tips.specs.Vine.{Vine, tip, pair, vine_nodes, occurs}
use Rattle.sheet_tips.proofs.MarkLaws.{unmarked_marks, unmarked_row}
use Rattle.sheet_tree.specs.Denotes.{Denotes, Different}
use Rattle.sheet_tree.specs.Parse.{on_parsed, on_byte, line_tree}
use Rattle.sheet_tree.specs.TreeLine.{IsTreeLine}
use Rattle.sheet_tree.proofs.DenoteLaws.{tree_says, denotes_unique, denotes_read, end_byte}
use Rattle.sheet_tree.proofs.EntryLaws.{Rows}
use Rattle.sheet_tree.proofs.OnceLaws.{line_from, line_once, rows_count}
use Rattle.sheet_tree.proofs.SizeLaws.{none_got}

-- the rows of a tree that a text denotes are those of names
denotes_rows : (sheet names : List ℕ) (t : ℕ) (v : Vine) (i e : ℕ) → Denotes sheet names t v i e → Rows t v
denotes_rows sheet names t (tip r) i e is = is.row
denotes_rows sheet names t (pair a b) i e is = (
  denotes_rows sheet names t a (i + 1) is.k is.left,
  denotes_rows sheet names t b (is.k + 1) is.m is.right,
)

-- no other row occurs
rows_over : (t : ℕ) (v : Vine) (r : ℕ) → Rows t v → t ≤ r → occurs r v ≡ 0
unfolding occurs
rows_over t (tip q) r low h = at_other r 1 q (λ e. omega arith)
rows_over t (pair a b) r (ra, rb) h = let one = rows_over t a r ra h in let two = rows_over t b r rb h in omega arith

module _ (sheet names : List ℕ) (t at end : ℕ) (few : t ≤ 512) (named : t ≤ length names) where
  -- What is read is the tree that the line is the text of.
  pub line_is_tree : (vine : Vine) (e : ℕ) (marks : List ℕ) → line_tree sheet names t at end ≡ got vine e marks
      → IsTreeLine sheet names t at end vine
  line_is_tree vine e marks h =
      let from = line_from sheet names t at end vine e marks h in
      let (denotes, flat) = tree_says sheet names t named 128 (unmarked 512) at vine e marks from.tree in
      record {
        stop = e;
        tree = denotes;
        semicolon = from.stop;
        last = from.last;
        flat = flat;
        once = line_once sheet names t at end few named vine e marks h;
      }

  module _ (different : Different sheet names t) where
    -- Every line that is the text of a tree is read, as that tree.
    pub tree_is_read : (vine : Vine) (is : IsTreeLine sheet names t at end vine)
        → (marks : List ℕ) × (line_tree sheet names t at end ≡ got vine is.stop marks)
    unfolding line_tree on_parsed on_byte both
    tree_is_read vine is =
        let rows = denotes_rows sheet names t vine at is.stop is.tree in
        let half = rows_count t vine rows in
        let ones : sum (λ r. occurs r vine) t ≡ t = sum_same (λ r. occurs r vine) (λ r. 1) t is.once ∙ sum_ones t in
        let (marks, read) =
        denotes_read sheet names t named different few vine 128 (unmarked 512) at is.stop unmarked_marks is.tree
        is.flat (ap is_name_byte is.semicolon ∙ end_byte)
        (λ r. let none = unmarked_row r in
        by_lt r t (λ low. let one = is.once r low in omega arith)
        (λ over. let zero = rows_over t vine r rows over in omega arith)) in
        let stop = is.stop in (
          marks,
          ap (λ p. on_parsed p (λ v e m. on_byte sheet (code ";") e
              (pick (both (eqb (e + 1) end) (eqb (vine_nodes v + 1) (2 * t))) (got v e m) no_tree))) read
              ∙ pick_true _ no_tree (eq-eqb (get_or sheet stop 0) (code ";") is.semicolon)
              ∙ pick_true (got vine stop marks) no_tree
              (ap₂ both (eq-eqb (stop + 1) end is.last) (eq-eqb (vine_nodes vine + 1) (2 * t) (omega arith))),
        )

    -- A line is the text of at most one tree.
    pub tree_unique : (v w : Vine) → IsTreeLine sheet names t at end v → IsTreeLine sheet names t at end w → v ≡ w
    tree_unique v w f g =
        (denotes_unique sheet names t named different v w at f.stop g.stop f.tree g.tree
        (ap is_name_byte f.semicolon ∙ end_byte) (ap is_name_byte g.semicolon ∙ end_byte)).0

    -- Whatever is not the text of a tree is refused: a line that is refused is the text of none.
    pub refused_no_tree : line_tree sheet names t at end ≡ no_tree → (vine : Vine)
        → IsTreeLine sheet names t at end vine → ⊥
    refused_no_tree none vine is =
        let (marks, read) = tree_is_read vine is in
        none_got (sym none ∙ read)

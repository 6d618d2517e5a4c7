-- The paper's worked examples 1 to 8 as a table: each a tree table, costs, cells and handed entries, with what it
-- claims of one column.
-- Assumes nothing.
use Rattle.std.specs.Prelude.{Bool, true, List, [], ◌∷◌, ℕ, suc, eqb, length}
use Rattle.parsimony.specs.Column.{Column, column_of}
use Rattle.parsimony.specs.Counting.{counted_at}
use Rattle.parsimony.specs.Label.{label, label_from}
use Rattle.parsimony.specs.NodeSet.{sets, sets_from}
use Rattle.parsimony.specs.Row.{row, score}
use Rattle.parsimony.specs.Test.{both}
use Rattle.parsimony.specs.Tie.{rule_in_use}

-- what an example claims of its column; a set is a number, bit x standing for state x
pub data Claim : Type 0 where
  -- the score
  scores : ℕ → Claim
  -- a node's row
  row_of : ℕ → List ℕ → Claim
  -- a node's set
  set_of : ℕ → ℕ → Claim
  -- all nodes' sets, from a start set
  sets_with : ℕ → List ℕ → Claim
  -- all nodes' labels
  labels : List ℕ → Claim
  -- all nodes' labels, from a start
  labels_with : ℕ → List ℕ → Claim
  -- a node's preliminary set
  prelim_of : ℕ → ℕ → Claim
  -- the change count by sets
  changes : ℕ → Claim

-- an example: the table, the column asked, and its claims
pub record Example : Type 0 where
  pub left : List ℕ
  pub right : List ℕ
  pub s : ℕ
  pub costs : List ℕ
  pub c : ℕ
  pub cells : List ℕ
  pub entries : List ℕ
  pub j : ℕ
  pub claims : List Claim

-- the list has the values of f from i on, one after the other
unfoldable pub lists_from : ℕ → (ℕ → ℕ) → List ℕ → Bool
unfolding both
lists_from i f [] = true
lists_from i f (x ∷ xs) = both (eqb (f i) x) (lists_from (suc i) f xs)

-- the list has the values of f from 0 to n-1
unfoldable pub lists : ℕ → (ℕ → ℕ) → List ℕ → Bool
unfolding both lists_from
lists n f xs = both (eqb (length xs) n) (lists_from 0 f xs)

-- the column of an example
unfoldable pub column_in : Example → Column
unfolding column_of
column_in e = column_of e.left e.right e.s e.costs e.c e.cells e.entries e.j

-- the test of one claim of an example
unfoldable pub claim_holds : Example → Claim → Bool
unfolding column_in score row label label_from sets sets_from counted_at lists
claim_holds e (scores k) = eqb (score (column_in e)) k
claim_holds e (row_of v r) = lists e.s (row (column_in e) v) r
claim_holds e (set_of v w) = eqb (sets (column_in e) v) w
claim_holds e (sets_with w ws) = lists (length e.left) (sets_from (column_in e) w) ws
claim_holds e (labels xs) = lists (length e.left) (label (column_in e)) xs
claim_holds e (labels_with x xs) = lists (length e.left) (label_from rule_in_use (column_in e) x) xs
claim_holds e (prelim_of v w) = eqb (counted_at e.left e.right e.c e.cells e.j v).set w
claim_holds e (changes k) =
    eqb (counted_at e.left e.right e.c e.cells e.j (column_in e).last).changes k

-- every claim of the list holds
unfoldable pub claims_hold : Example → List Claim → Bool
unfolding claim_holds both
claims_hold e [] = true
claims_hold e (k ∷ ks) = both (claim_holds e k) (claims_hold e ks)

-- every example of the list holds
unfoldable pub all_hold : List Example → Bool
unfolding claims_hold both
all_hold [] = true
all_hold (e ∷ es) = both (claims_hold e e.claims) (all_hold es)

-- unit costs of four states
abbrev unit : List ℕ
unit = 0 ∷ 1 ∷ 1 ∷ 1 ∷ 1 ∷ 0 ∷ 1 ∷ 1 ∷ 1 ∷ 1 ∷ 0 ∷ 1 ∷ 1 ∷ 1 ∷ 1 ∷ 0 ∷ []

-- transitions (A and G, C and T) 1, transversions 2
abbrev transitions : List ℕ
transitions = 0 ∷ 2 ∷ 1 ∷ 2 ∷ 2 ∷ 0 ∷ 2 ∷ 1 ∷ 1 ∷ 2 ∷ 0 ∷ 2 ∷ 2 ∷ 1 ∷ 2 ∷ 0 ∷ []

-- no child: the left entry of a tip
abbrev none : ℕ
none = 65535

-- the sheet of the paper's report, ((a,b),c);
-- a is AC, b is AT, c is GT
abbrev report : ℕ → List Claim → Example
report j claims =
    record {
      left = none ∷ none ∷ 0 ∷ none ∷ 2 ∷ [];
      right = 0 ∷ 1 ∷ 1 ∷ 2 ∷ 3 ∷ [];
      s = 4;
      costs = unit;
      c = 2;
      cells = 1 ∷ 2 ∷ 1 ∷ 8 ∷ 4 ∷ 8 ∷ [];
      entries = [];
      j = j;
      claims = claims;
    }

-- four tips on ((1,2),(3,4)); in one column
abbrev pairs : List ℕ → List ℕ → List Claim → Example
pairs costs cells claims =
    record {
      left = none ∷ none ∷ 0 ∷ none ∷ none ∷ 3 ∷ 2 ∷ [];
      right = 0 ∷ 1 ∷ 1 ∷ 2 ∷ 3 ∷ 4 ∷ 5 ∷ [];
      s = 4;
      costs = costs;
      c = 1;
      cells = cells;
      entries = [];
      j = 0;
      claims = claims;
    }

-- two tips under a root in one column
abbrev cherry : ℕ → List ℕ → List ℕ → List Claim → Example
cherry s costs cells claims =
    record {
      left = none ∷ none ∷ 0 ∷ [];
      right = 0 ∷ 1 ∷ 1 ∷ [];
      s = s;
      costs = costs;
      c = 1;
      cells = cells;
      entries = [];
      j = 0;
      claims = claims;
    }

-- 1. One tip, cell {1,3}: score 0, set {1,3}, label 1.
abbrev example1 : Example
example1 =
    record {
      left = none ∷ [];
      right = 0 ∷ [];
      s = 4;
      costs = unit;
      c = 1;
      cells = 10 ∷ [];
      entries = [];
      j = 0;
      claims = scores 0 ∷ set_of 0 10 ∷ labels (1 ∷ []) ∷ [];
    }

-- 2. The report's two columns: scores 1 and 1, labels AAAGA and CTTTT; four and five nodes have a set of one state.
abbrev example2a : Example
example2a =
    report 0
    (scores 1
    ∷ labels (0 ∷ 0 ∷ 0 ∷ 2 ∷ 0 ∷ [])
    ∷ set_of 0 1
    ∷ set_of 1 1
    ∷ set_of 2 1
    ∷ set_of 3 4
    ∷ set_of 4 5
    ∷ changes 1
    ∷ [])

abbrev pub example2b : Example
example2b =
    report 1
    (scores 1
    ∷ labels (1 ∷ 3 ∷ 3 ∷ 3 ∷ 3 ∷ [])
    ∷ set_of 0 2
    ∷ set_of 1 8
    ∷ set_of 2 8
    ∷ set_of 3 8
    ∷ set_of 4 8
    ∷ changes 1
    ∷ [])

-- 3. (((c,g),a),b); with C, G, A, A: score 2. The inner node over c and g has preliminary set CG, final ACG, label A.
abbrev example3 : Example
example3 =
    record {
      left = none ∷ none ∷ 0 ∷ none ∷ 2 ∷ none ∷ 4 ∷ [];
      right = 0 ∷ 1 ∷ 1 ∷ 2 ∷ 3 ∷ 3 ∷ 5 ∷ [];
      s = 4;
      costs = unit;
      c = 1;
      cells = 2 ∷ 4 ∷ 1 ∷ 1 ∷ [];
      entries = [];
      j = 0;
      claims = scores 2
          ∷ prelim_of 2 6
          ∷ set_of 2 7
          ∷ labels (1 ∷ 2 ∷ 0 ∷ 0 ∷ 0 ∷ 0 ∷ 0 ∷ [])
          ∷ changes 2
          ∷ [];
    }

-- 4. Two tips 0 and 1, cost(0,1)=1, cost(1,0)=3: score 1, root set {0}.
abbrev example4 : Example
example4 = cherry 2 (0 ∷ 1 ∷ 3 ∷ 0 ∷ []) (1 ∷ 2 ∷ []) (scores 1 ∷ set_of 2 1 ∷ [])

-- 5. Tips 0 and 1 of three states, cost(0,1)=cost(1,0)=cost(1,2)=9, cost(0,2)=cost(2,0)=cost(2,1)=1: score 2, root set
-- {2}, a state at no tip.
abbrev example5 : Example
example5 =
    cherry 3 (0 ∷ 9 ∷ 1 ∷ 9 ∷ 0 ∷ 9 ∷ 1 ∷ 1 ∷ 0 ∷ []) (1 ∷ 2 ∷ []) (scores 2 ∷ set_of 2 4 ∷ labels (0 ∷ 1 ∷ 2 ∷ []) ∷ [])

-- 6. Transitions 1, transversions 2: tips A, G, C, T on ((a,g),(c,t)); score 4, on ((a,c),(g,t)); 5.
abbrev example6a : Example
example6a = pairs transitions (1 ∷ 4 ∷ 2 ∷ 8 ∷ []) (scores 4 ∷ [])

abbrev example6b : Example
example6b = pairs transitions (1 ∷ 2 ∷ 4 ∷ 8 ∷ []) (scores 5 ∷ [])

-- 7. Unit, R, R, Y, Y: ((r,r2),(y,y2)); 1; ((r,y),(r2,y2)); 2.
abbrev example7a : Example
example7a = pairs unit (5 ∷ 5 ∷ 10 ∷ 10 ∷ []) (scores 1 ∷ changes 1 ∷ [])

abbrev example7b : Example
example7b = pairs unit (5 ∷ 10 ∷ 5 ∷ 10 ∷ []) (scores 2 ∷ changes 2 ∷ [])

-- 8. Column 1 of the report cut at node 2: row 2, 1, 2, 1 goes up; T and {T} come down; the part's labels are C, T, T.
-- The part is a and b under node 2; the rest is a handed tip and c under the root.
abbrev pub example8part : Example
example8part =
    cherry 4 unit (2 ∷ 8 ∷ [])
    (row_of 2 (2 ∷ 1 ∷ 2 ∷ 1 ∷ []) ∷ labels_with 3 (1 ∷ 3 ∷ 3 ∷ []) ∷ sets_with 8 (2 ∷ 8 ∷ 8 ∷ []) ∷ [])

abbrev pub example8rest : Example
example8rest =
    record {
      left = none ∷ none ∷ 0 ∷ [];
      right = 32768 ∷ 0 ∷ 1 ∷ [];
      s = 4;
      costs = unit;
      c = 1;
      cells = 8 ∷ [];
      entries = 2 ∷ 1 ∷ 2 ∷ 1 ∷ [];
      j = 0;
      claims = scores 1 ∷ labels (3 ∷ 3 ∷ 3 ∷ []) ∷ set_of 0 8 ∷ set_of 2 8 ∷ [];
    }

-- the table of examples
abbrev pub examples : List Example
examples =
    example1
    ∷ example2a
    ∷ example2b
    ∷ example3
    ∷ example4
    ∷ example5
    ∷ example6a
    ∷ example6b
    ∷ example7a
    ∷ example7b
    ∷ example8part
    ∷ example8rest
    ∷ []

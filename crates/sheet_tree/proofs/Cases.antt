-- The definitions on small tree lines.
-- Assumes nothing.
use mathlib.Core.List.{List, [], ◌∷◌}
use mathlib.Core.Path.{◌≡◌, refl}
use Prim.Native.Nat.{ℕ, zero, suc, ◌+◌}
use Prim.Native.String.{String}
use lib.ListN.{length}
use Rattle.sheet_lines.specs.Bytes.{bytes}
use Rattle.sheet_tips.specs.Nodes.{lefts, rights}
use Rattle.sheet_tips.specs.Tip.{Parsed, got, no_tree}
use Rattle.sheet_tips.specs.Vine.{Vine, tip, pair, deep}
use Rattle.sheet_tree.specs.Parse.{line_tree}

-- the tree that a text denotes, over the names a, b and ab, which stand at places 0, 2 and 4
abbrev Read : Type 0
Read = Parsed

-- the names' lines, and the text after them
abbrev sheet : String → List ℕ
sheet text = 97 ∷ 10 ∷ 98 ∷ 10 ∷ 97 ∷ 98 ∷ 10 ∷ bytes text

-- the tree alone
abbrev tree_in : Parsed → List Vine
tree_in (got vine e marks) = vine ∷ []
tree_in no_tree = []

unfoldable reads : String → List Vine
unfolding line_tree bytes
reads text = tree_in (line_tree (sheet text) (0 ∷ 2 ∷ 4 ∷ []) 3 7 (7 + length (bytes text)))

case_tree : reads "((a,b),ab);" ≡ pair (pair (tip 0) (tip 1)) (tip 2) ∷ []
unfolding reads
case_tree = refl

-- a name is as long as it can be
case_long : reads "(ab,(a,b));" ≡ pair (tip 2) (pair (tip 0) (tip 1)) ∷ []
unfolding reads
case_long = refl

case_missing : reads "(a,b);" ≡ []
unfolding reads
case_missing = refl

case_repeated : reads "((a,b),a);" ≡ []
unfolding reads
case_repeated = refl

case_unknown : reads "((a,b),c);" ≡ []
unfolding reads
case_unknown = refl

case_space : reads "((a, b),ab);" ≡ []
unfolding reads
case_space = refl

case_single : reads "((a),ab);" ≡ []
unfolding reads
case_single = refl

case_three : reads "(a,b,ab);" ≡ []
unfolding reads
case_three = refl

case_after : reads "((a,b),ab);;" ≡ []
unfolding reads
case_after = refl

case_no_end : reads "((a,b),ab)" ≡ []
unfolding reads
case_no_end = refl

case_empty : reads "" ≡ []
unfolding reads
case_empty = refl

-- the paper's tree ((a,b),c); as a table
case_lefts : lefts (pair (pair (tip 0) (tip 1)) (tip 2)) 0 ≡ 65535 ∷ 65535 ∷ 0 ∷ 65535 ∷ 2 ∷ []
unfolding lefts
case_lefts = refl

case_rights : rights (pair (pair (tip 0) (tip 1)) (tip 2)) 0 ≡ 0 ∷ 1 ∷ 1 ∷ 2 ∷ 3 ∷ []
unfolding rights
case_rights = refl

-- a comb over the rows 0 to n
unfoldable comb : ℕ → Vine
comb zero = tip 0
comb (suc n) = pair (comb n) (tip (suc n))

-- a comb of 129 names nests 128 deep, one of 130 names 129 deep
case_comb : deep (comb 128) ≡ 128
unfolding comb deep
case_comb = refl

case_comb_over : deep (comb 129) ≡ 129
unfolding comb deep
case_comb_over = refl

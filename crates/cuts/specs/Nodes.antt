-- Cuts by nodes: the plan that cuts a table at any inner nodes but the root, and the nodes that a plan cuts.
-- Assumes nothing.
use Rattle.std.specs.Prelude.{List, [], ◌∷◌, ◌++◌, ℕ, suc, ◌-◌, ◌≤◌}
use Rattle.promises.specs.Input.{Input}
use Rattle.cuts.specs.Cut.{CutAt, part, rest, part_node, rest_node, in_rest, span}
use Rattle.cuts.specs.Numbering.{renumber}
use Rattle.cuts.specs.Plan.{Plan, whole, cut_at, columns_at}

-- the nodes of the list rise, none is below low, and each may be cut
abbrev pub MayCut : Input → ℕ → List ℕ → Type 0
MayCut I low [] = Unit {0}
MayCut I low (v ∷ vs) = (low ≤ v) × (CutAt I v × MayCut I (suc v) vs)

-- rows for a rest of which only the tree is asked: whatever rows are sent up, the tree is the same
abbrev pub no_rows : ℕ → ℕ → ℕ
no_rows j x = 0

-- the plan that cuts the table at hand at a rising list of nodes, where now u is the number there of node u of the
-- whole: the lowest is cut first; all others stand in the rest, and are followed by their numbers there
abbrev pub cuts_from : Input → (ℕ → ℕ) → List ℕ → Plan
cuts_from I now [] = whole
cuts_from I now (v ∷ vs) =
    cut_at (now v) whole
    (cuts_from (rest I (now v) no_rows) (λ u. renumber (in_rest I (now v) no_rows).keep (now u)) vs)

-- the plan that cuts a table at a rising list of its nodes
abbrev pub cuts_at : Input → List ℕ → Plan
cuts_at I vs = cuts_from I (λ u. u) vs

-- the nodes at which a plan cuts the table at hand, in the numbers of the whole, where back i is the number there of
-- node i: those cut in the part and in the rest are traced back
abbrev pub nodes_cut : Plan → Input → (ℕ → ℕ) → List ℕ
nodes_cut whole I back = []
nodes_cut (cut_at v below above) I back =
    back v
    ∷ (nodes_cut below (part I v) (λ i. back (part_node I v i))
    ++ nodes_cut above (rest I v no_rows) (λ i. back (rest_node I v no_rows i)))
nodes_cut (columns_at m first second) I back =
    nodes_cut first (span I 0 m) back ++ nodes_cut second (span I m (I.c - m)) back

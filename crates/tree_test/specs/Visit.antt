-- The visit of a node on the walk that looks for the lowest fault: what is known before it, and what it tells.
-- Assumes nothing.
use Rattle.std.specs.Prelude.{Bool, true, false, List, ◌≡◌, ℕ, ◌+◌, ◌<◌, ◌≤◌}
use Rattle.parsimony.specs.Fault.{KeepsEntries}
use Rattle.parsimony.specs.Table.{Kind, symbol, handed, Node, tips, row_uses, child_uses}
use Rattle.tree_uses.specs.Marks.{MarksAre}

-- of two things, the one for symbol tips or the one for handed tips
abbrev pub for_kind : {A : Type 0} → Kind → A → A → A
for_kind symbol a b = a
for_kind handed a b = b

-- r is the lowest number below the limit of which P does not hold, or the limit where there is none
pub record FirstNot (P : ℕ → Type 0) (limit r : ℕ) : Type 0 where
  pub within : r ≤ limit
  pub before : (v : ℕ) → v < r → P v
  pub stop : r < limit → P r → ⊥

-- what is known of all n nodes: they are at most 1,023, of which t are symbol tips and h handed tips
pub record Surveyed (n : ℕ) (node : ℕ → Node) (t h : ℕ) : Type 0 where
  pub most : n ≤ 1023
  pub kinds : (k : Kind) → for_kind k t h ≡ tips k node n

-- the marks seen, rows and given count the uses of children, matrix rows and handed rows by the nodes below v
pub record Marked (node : ℕ → Node) (v : ℕ) (seen rows given : List ℕ) : Type 0 where
  pub children : MarksAre (child_uses node v) seen
  pub kinds : (k : Kind) → MarksAre (row_uses k node v) (for_kind k rows given)

-- node v of n is to be visited
pub record ToVisit (n : ℕ) (node : ℕ → Node) (v t h : ℕ) (seen rows given : List ℕ) : Type 0 where
  pub within : v < n
  pub survey : Surveyed n node t h
  pub marks : Marked node v seen rows given

-- yes: the entries of node v keep their rules, and the marks count its uses too; no: they do not, and the marks do not
abbrev pub VisitedBy : ℕ → (ℕ → Node) → ℕ → List ℕ → List ℕ → List ℕ → Bool → Type 0
VisitedBy n node v seen rows given true = KeepsEntries n node v (node v) × Marked node (v + 1) seen rows given
VisitedBy n node v seen rows given false = (KeepsEntries n node v (node v) → ⊥) × Marked node v seen rows given

-- the answer b to a visit of node v, with the marks after it
pub record Visited (n : ℕ) (node : ℕ → Node) (v : ℕ) (seen rows given : List ℕ) (b : Bool) : Type 0 where
  pub visited : VisitedBy n node v seen rows given b

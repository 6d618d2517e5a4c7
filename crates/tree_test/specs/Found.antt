-- What the test of a tree table finds.
-- Assumes nothing.
use Rattle.std.specs.Prelude.{ℕ, Result, Ok, Err}
use Rattle.parsimony.specs.Fault.{LowestFault}
use Rattle.parsimony.specs.Table.{Node, TreeRules}
use Rattle.tree_nodes.specs.NodeOf.{TipCounts}
use Rattle.tree_nodes.specs.declared.nodes.Tips.{Tips}

-- n nodes that keep the tree rules, of which t are symbol tips and h handed tips
pub record LegalTree (n : ℕ) (node : ℕ → Node) (t h : ℕ) : Type 0 where
  pub rules : TreeRules n node
  pub tips : TipCounts n node t h

-- a legal tree: the tree rules hold, and its tips are counted; a fault: its node is the lowest at fault
abbrev pub FoundOf : ℕ → (ℕ → Node) → Result Tips ℕ → Type 0
FoundOf n node (Ok tips) = LegalTree n node tips.symbol tips.handed
FoundOf n node (Err v) = LowestFault n node v

-- the answer r says what is found in a table of n nodes
pub record Found (n : ℕ) (node : ℕ → Node) (r : Result Tips ℕ) : Type 0 where
  pub found : FoundOf n node r

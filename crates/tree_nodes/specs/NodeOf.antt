-- The code's nodes, kinds and counts of tips as the definitions have them.
-- Assumes nothing.
use Rattle.std.specs.Prelude.{Bool, true, false, ◌≡◌, ℕ}
use Rattle.parsimony.specs.Table.{Kind, symbol, handed, leaf, inner, tips}
use Rattle.parsimony.specs.Table as Table
use Rattle.tree_nodes.specs.declared.nodes.Node.{Node}
use Rattle.tree_nodes.specs.declared.nodes.Node.TheVariants.{Symbol, Handed, Inner}

-- a symbol tip and a handed tip with the number of its row, an inner node with its children
abbrev pub node_of : Node → Table.Node
node_of (Symbol r) = leaf symbol r
node_of (Handed k) = leaf handed k
node_of (Inner a b) = inner a b

-- the kind of tip that is asked for: handed, or else symbol
abbrev pub kind_of : Bool → Kind
kind_of true = handed
kind_of false = symbol

-- of n nodes t are symbol tips, and h are handed tips
pub record TipCounts (n : ℕ) (node : ℕ → Table.Node) (t h : ℕ) : Type 0 where
  pub symbol_tips : t ≡ tips symbol node n
  pub handed_tips : h ≡ tips handed node n

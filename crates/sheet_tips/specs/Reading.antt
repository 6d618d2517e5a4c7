-- What the readers of tree text answer, and what they leave in the lists.
-- Assumes nothing.
use Rattle.std.specs.Prelude.{Option, Some, None, List, ◌≡◌, ℕ, ◌+◌, ◌*◌, ◌≤◌, length}
use Rattle.std.proofs.lemmas.List.Edits.{sets}
use Rattle.std.specs.Option.{option_map}
use Rattle.sheet_tips.specs.declared.Nodes.{Nodes}
use Rattle.sheet_tips.specs.Marks.{IsMarks, met}
use Rattle.sheet_tips.specs.Nodes.{lefts, rights}
use Rattle.sheet_tips.specs.Tip.{Parsed, got, no_tree}
use Rattle.sheet_tips.specs.Vine.{Vine, vine_nodes}

-- a subtree may be read after n nodes: t names are at hand, left and right have room for all nodes, and n is at most
-- twice the number of names that are marked as met
pub record RoomForSubtree (names : List ℕ) (t n : ℕ) (left right marks : List ℕ) : Type 0 where
  pub few : t ≤ 512
  pub named : t ≤ length names
  pub left_room : length left ≡ 1023
  pub right_room : length right ≡ 1023
  pub known : IsMarks marks
  pub made : n ≤ 2 * met marks

-- a tree is read: it ends at next, m nodes are made, its nodes are written from n on, and its names are marked
pub record Got (parsed : Parsed) (n : ℕ) (left right : List ℕ) (next m : ℕ)
    (left' right' marks' : List ℕ) : Type 0 where
  pub vine : Vine
  pub is : parsed ≡ got vine next marks'
  pub count : m ≡ n + vine_nodes vine
  pub lefts : left' ≡ sets left n (lefts vine n)
  pub rights : right' ≡ sets right n (rights vine n)

-- a reader of tree text answers with the tree that is parsed, or with no tree where none is parsed
abbrev pub GivesSubtreeFor : Parsed → ℕ → List ℕ → List ℕ → Option (ℕ × ℕ) → List ℕ → List ℕ → List ℕ → Type 0
GivesSubtreeFor parsed n left right (Some (next, m)) left' right' marks' =
    Got parsed n left right next m left' right' marks'
GivesSubtreeFor parsed n left right None left' right' marks' = parsed ≡ no_tree

-- what a reader of tree text gives for what is parsed: the answer, and the lists, with the tree's nodes from n on
pub record GivesSubtree (parsed : Parsed) (n : ℕ) (left right : List ℕ) (answer : Option (ℕ × ℕ))
    (left' right' marks' : List ℕ) : Type 0 where
  pub gives : GivesSubtreeFor parsed n left right answer left' right' marks'

-- the same of the names at hand and the nodes that are made so far
abbrev pub RoomForNames : List ℕ → Nodes → Type 0
RoomForNames names nodes =
    RoomForSubtree names (length names) nodes.made nodes.left.now nodes.right.now nodes.marks.now

-- the same of a reader that makes nodes, and answers with the place after a tree
abbrev pub GivesPlace : Parsed → Nodes → Option ℕ → Nodes → Type 0
GivesPlace parsed before answer after =
    GivesSubtree parsed before.made before.left.now before.right.now
    (option_map (λ next. (next, after.made)) answer) after.left.now after.right.now after.marks.now

-- the lists are still those that were lent, and as long
pub record SameLists (before after : Nodes) : Type 0 where
  pub left : after.left.ghost_name ≡ before.left.ghost_name
  pub right : after.right.ghost_name ≡ before.right.ghost_name
  pub marks : after.marks.ghost_name ≡ before.marks.ghost_name
  pub left_size : length after.left.now ≡ length before.left.now
  pub right_size : length after.right.now ≡ length before.right.now

-- What the reader of a tree line answers, and what it leaves in the lists.
-- Assumes nothing.
use Rattle.std.specs.Prelude.{Option, Some, None, List, ◌≡◌, ℕ}
use Rattle.sheet_tips.specs.Reading.{Got}
use Rattle.sheet_tips.specs.Tip.{Parsed, no_tree}

-- the tree line is read: its tree ends at stop, n nodes are made, and they are written from 0 on
pub record GotLine (parsed : Parsed) (left right : List ℕ) (stop n : ℕ) (left' right' : List ℕ) : Type 0 where
  pub marks : List ℕ
  pub line : Got parsed 0 left right stop n left' right' marks

-- the reader of a tree line answers with the tree that is parsed, or with no tree where none is parsed
abbrev pub GivesLineFor : Parsed → List ℕ → List ℕ → Option (ℕ × ℕ) → List ℕ → List ℕ → Type 0
GivesLineFor parsed left right (Some (stop, n)) left' right' = GotLine parsed left right stop n left' right'
GivesLineFor parsed left right None left' right' = parsed ≡ no_tree

-- what the reader of a tree line gives for what is parsed: the answer, and the lists, with the tree's nodes from 0 on
pub record GivesLine (parsed : Parsed) (left right : List ℕ) (answer : Option (ℕ × ℕ))
    (left' right' : List ℕ) : Type 0 where
  pub gives : GivesLineFor parsed left right answer left' right'

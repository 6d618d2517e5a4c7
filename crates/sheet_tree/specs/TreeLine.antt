-- The tree line in the paper's words.
-- Assumes nothing.
use Rattle.std.specs.Prelude.{List, ◌≡◌, ℕ, ◌+◌, ◌<◌, ◌≤◌, get_or}
use Prim.Native.Char.{code}
use Rattle.sheet_tips.specs.Vine.{Vine, occurs, deep}
use Rattle.sheet_tree.specs.Denotes.{Denotes}

-- the line from a place up to its end is the text of a tree: it denotes the tree and ends in `;`, brackets nest at most
-- 128 deep, and each of the t names occurs once
pub record IsTreeLine (sheet names : List ℕ) (t at end : ℕ) (vine : Vine) : Type 0 where
  pub stop : ℕ
  pub tree : Denotes sheet names t vine at stop
  pub semicolon : get_or sheet stop 0 ≡ code ";"
  pub last : stop + 1 ≡ end
  pub flat : deep vine ≤ 128
  pub once : (r : ℕ) → r < t → occurs r vine ≡ 1

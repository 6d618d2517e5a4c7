-- In a piece, nodes and matrix rows keep their relative order, and handed rows are numbered in node order.
-- Assumes nothing.
use mathlib.Core.Path.{◌≡◌}
use Prim.Native.Nat.{ℕ, ◌<◌}
use native.Mathlib.Omega.{arith}
use Rattle.parsimony.specs.Table.{symbol, handed, leaf}
use Rattle.parsimony.proofs.Order.{by_lt}
use Rattle.promises.specs.CallRules.{Allowed}
use Rattle.promises.specs.Input.{Input, nodes}
use Rattle.cuts.specs.Numbering.{renumber}
use Rattle.cuts.specs.Piece.{Choice, kept_row, kept_handed, renumbered, piece_node, kept_nodes}
use Rattle.cuts.proofs.KeptLaws.{Stands, from, row_kept}
use Rattle.cuts.proofs.NumberLaws.{renumber_lt, renumber_mono}
use Rattle.cuts.proofs.PieceRules.{handed_kept}

module _ (I : Input) (table : Allowed I) (K : Choice) (top : ℕ) (stands : Stands I K top) where
  -- of two nodes of the piece the lower was the lower
  pub nodes_in_order : (i j : ℕ) → i < j → j < kept_nodes I K → piece_node I K i < piece_node I K j
  nodes_in_order i j h k =
      let (inside, kept, number) = from I table K top stands i (omega arith) in
      let (inside', kept', number') = from I table K top stands j k in
      by_lt (piece_node I K i) (piece_node I K j) (λ l. l)
      (λ over. absurd (let mono = renumber_mono K.keep (piece_node I K j) (piece_node I K i) over in omega arith))

  -- of two tips the one with the lower matrix row has the lower row in the piece
  pub rows_in_order : (u w q r q' r' : ℕ) → u < nodes I → w < nodes I → K.keep u ≡ 1 → K.keep w ≡ 1
      → K.node u ≡ leaf symbol q → K.node w ≡ leaf symbol r
      → renumbered I K u (leaf symbol q) ≡ leaf symbol q' → renumbered I K w (leaf symbol r) ≡ leaf symbol r'
      → q < r → q' < r'
  rows_in_order u w q r q' r' hu hw ku kw eu ew fu fw h =
      let kept = (row_kept I table K top stands u q hu ku eu).1 in
      let less = renumber_lt (kept_row I K) q r kept h in
      let same : renumber (kept_row I K) q ≡ q' = cc in
      let same' : renumber (kept_row I K) r ≡ r' = cc in
      omega arith

  -- of two handed tips the lower node has the lower handed row
  pub handed_in_order : (u w q r q' r' : ℕ) → u < nodes I → w < nodes I → K.keep u ≡ 1 → K.keep w ≡ 1
      → K.node u ≡ leaf handed q → K.node w ≡ leaf handed r
      → renumbered I K u (leaf handed q) ≡ leaf handed q' → renumbered I K w (leaf handed r) ≡ leaf handed r'
      → u < w → q' < r'
  handed_in_order u w q r q' r' hu hw ku kw eu ew fu fw h =
      let kept = handed_kept I table K top stands u q ku eu in
      let less = renumber_lt (kept_handed K) u w kept h in
      let same : renumber (kept_handed K) u ≡ q' = cc in
      let same' : renumber (kept_handed K) w ≡ r' = cc in
      omega arith

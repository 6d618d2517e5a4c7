-- A piece may be cut again at the inner nodes that it has from its table, and these keep their order.
-- Assumes nothing.
use mathlib.Core.Path.{◌≡◌, ap, ◌∙◌}
use Prim.Native.Nat.{ℕ, ◌-◌, ◌<◌}
use native.Mathlib.Omega.{arith}
use borrow.Author.Tests.{ne_eqb}
use Rattle.parsimony.specs.Row.{row}
use Rattle.parsimony.specs.Table.{handed, leaf, inner}
use Rattle.parsimony.proofs.Order.{by_lt, pick_false}
use Rattle.promises.specs.CallRules.{Allowed}
use Rattle.promises.specs.Input.{Input, nodes, node_in, column}
use Rattle.cuts.specs.Cut.{CutAt, branch, part, rest, rest_node, in_part, in_rest}
use Rattle.cuts.specs.Numbering.{renumber}
use Rattle.cuts.specs.Piece.{Choice, renumbered, node_new, piece}
use Rattle.cuts.proofs.CutLaws.{part_stands, rest_stands, in_either}
use Rattle.cuts.proofs.KeptLaws.{Stands, piece_own}
use Rattle.cuts.proofs.NumberLaws.{renumber_lt, renumber_mono}
use Rattle.cuts.proofs.PieceNodes.{piece_nodes, piece_node_lem}

-- A kept inner node below the top may be cut in the piece, by its number there.
pub piece_again : (I : Input) → Allowed I → (K : Choice) (top : ℕ) → Stands I K top → (u a b : ℕ) → u < top
    → K.keep u ≡ 1 → K.node u ≡ inner a b → CutAt (piece I K) (renumber K.keep u)
unfolding node_new
piece_again I table K top stands u a b low k e =
    let inside = stands.inside in
    let (here, own) = piece_own I table K top stands u (omega arith) k in
    let long = piece_nodes I table K top stands in
    let before = renumber_lt K.keep u top k low in
    let last = renumber_lt K.keep top (nodes I) stands.kept inside in
    record {
      inside = omega arith;
      kids = (
        renumber K.keep a,
        renumber K.keep b,
        piece_node_lem I table K top stands (renumber K.keep u) here
            ∙ ap (λ w. renumbered I K w (K.node w)) own
            ∙ ap (renumbered I K u) e,
      );
    }

module _ (I : Input) (table : Allowed I) (v : ℕ) (cut : CutAt I v) where
  -- The part may be cut at each inner node that stands below v.
  pub part_again : (u : ℕ) → (u ≡ v → ⊥) → branch I v u ≡ 1 → CutAt I u → CutAt (part I v) (renumber (branch I v) u)
  part_again u other k again =
      let stands = part_stands I table v cut in
      let inside = again.inside in
      let (a, b, e) = again.kids in
      let most = stands.most u (omega arith) k in
      piece_again I table (in_part I v) v stands u a b (omega arith) k e

  module _ (sent : ℕ → ℕ → ℕ) (right : (j x : ℕ) → j < I.c → x < I.s → sent j x ≡ row (column I j) v x) where
    abbrev K : Choice
    K = in_rest I v sent

    -- a node higher than v stands in the rest
    pub rest_higher : (u : ℕ) → v < u → u < nodes I → K.keep u ≡ 1
    rest_higher u h inside =
        in_either I table v cut sent right u inside (λ k. k)
        (λ k. absurd (let most = (part_stands I table v cut).most u inside k in omega arith))

    -- The rest may be cut at each inner node higher than v but the root.
    pub rest_again : (u : ℕ) → v < u → CutAt I u → CutAt (rest I v sent) (renumber K.keep u)
    rest_again u h again =
        let inside = again.inside in
        let (a, b, e) = again.kids in
        piece_again I table K (nodes I - 1) (rest_stands I table v cut sent right) u a b (omega arith)
        (rest_higher u h (omega arith)) (pick_false (leaf handed 0) (node_in I u) (ne_eqb u v (λ i. omega arith)) ∙ e)

    -- Such nodes keep their order.
    pub rest_order : (u w : ℕ) → v < u → u < nodes I → u < w → renumber K.keep u < renumber K.keep w
    rest_order u w h inside low = renumber_lt K.keep u w (rest_higher u h inside) low

    -- A number of the rest beyond v's is that of a node higher than v, and leads back to it.
    pub rest_back : (u : ℕ) → renumber K.keep v < renumber K.keep u → renumber K.keep u < nodes (rest I v sent)
        → (v < u) × (u < nodes I) × (rest_node I v sent (renumber K.keep u) ≡ u)
    rest_back u h k =
        let stands = rest_stands I table v cut sent right in
        let long = piece_nodes I table K (nodes I - 1) stands in
        let high : v < u = by_lt v u (λ i. i)
        (λ i. absurd (let mono = renumber_mono K.keep u v i in omega arith)) in
        let inside : u < nodes I = by_lt u (nodes I) (λ i. i)
        (λ i. absurd (let mono = renumber_mono K.keep (nodes I) u i in omega arith)) in
        (high, inside, (piece_own I table K (nodes I - 1) stands u inside (rest_higher u high inside)).1)

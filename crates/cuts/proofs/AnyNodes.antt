-- A table may be cut at any inner nodes but the root: the plan that does so is allowed, and cuts nowhere else.
-- Assumes nothing.
use mathlib.Core.List.{List, [], ◌∷◌}
use mathlib.Core.Path.{◌≡◌, refl, ap, ap₂, sym, ◌∙◌, subst}
use Prim.Native.Nat.{ℕ, suc, ◌-◌, ◌≤◌, ◌<◌}
use native.Mathlib.Omega.{arith}
use Rattle.parsimony.specs.Row.{row}
use Rattle.promises.specs.CallRules.{Allowed}
use Rattle.promises.specs.Input.{Input, nodes, column}
use Rattle.cuts.specs.Cut.{CutAt, rest, rest_node, in_rest}
use Rattle.cuts.specs.Cuttable.{Cuttable}
use Rattle.cuts.specs.Nodes.{MayCut, no_rows, cuts_from, cuts_at, nodes_cut}
use Rattle.cuts.specs.Numbering.{renumber}
use Rattle.cuts.specs.Plan.{whole, Suits}
use Rattle.cuts.proofs.CutAgain.{rest_again, rest_order, rest_back}
use Rattle.cuts.proofs.CutLaws.{rest_stands, rest_own}
use Rattle.cuts.proofs.NumberLaws.{renumber_lt}
use Rattle.cuts.proofs.PlanLaws.{again}
use Rattle.cuts.proofs.PlanResults.{sent_right}
use Rattle.cuts.proofs.SameTree.{SameTree, kept_same, node_same, rest_same}

-- the nodes of the list, by the numbers that now gives them, rise, none is below low, and each may be cut
abbrev Ready : Input → (ℕ → ℕ) → ℕ → List ℕ → Type 0
Ready I now low [] = Unit {0}
Ready I now low (v ∷ vs) = (low ≤ now v) × (CutAt I (now v) × Ready I now (suc (now v)) vs)

ready_first : (I : Input) (vs : List ℕ) (low : ℕ) → MayCut I low vs → Ready I (λ u. u) low vs
ready_first I [] low may = tt
ready_first I (v ∷ vs) low (h, (cut, may)) = (h, (cut, ready_first I vs (suc v) may))

-- nodes higher than v that may be cut may be cut in the rest
ready_rest : (I : Input) (table : Allowed I) (v : ℕ) (cut : CutAt I v) (sent : ℕ → ℕ → ℕ)
    → ((j x : ℕ) → j < I.c → x < I.s → sent j x ≡ row (column I j) v x)
    → (now : ℕ → ℕ) (vs : List ℕ) (low least : ℕ) → v < low
    → ((w : ℕ) → low ≤ w → least ≤ renumber (in_rest I v sent).keep w)
    → Ready I now low vs → Ready (rest I v sent) (λ u. renumber (in_rest I v sent).keep (now u)) least vs
ready_rest I table v cut sent right now [] low least h lower ready = tt
ready_rest I table v cut sent right now (u ∷ vs) low least h lower (here, (at-u, more)) =
    let inside = at-u.inside in
    let keep = (in_rest I v sent).keep in (
      lower (now u) here,
      (
        rest_again I table v cut sent right (now u) (omega arith) at-u,
        ready_rest I table v cut sent right now vs (suc (now u)) (suc (renumber keep (now u))) (omega arith)
            (λ w low. rest_order I table v cut sent right (now u) w (omega arith) (omega arith) low) more,
      ),
    )

-- the plan made from the tree of a table suits the table
suits_from : (vs : List ℕ) (I J : Input) (now : ℕ → ℕ) (low : ℕ) → SameTree I J → Cuttable I → Ready I now low vs
    → Suits (cuts_from J now vs) I
suits_from [] I J now low same ok ready = tt
suits_from (v ∷ vs) I J now low same ok (here, (cut, more)) = (
  cut,
  (
    tt,
    λ sent below. let right = sent_right whole I (now v) sent ok cut below in
        let table = ok.table in
        let in_rest_lem = rest_stands I table (now v) cut sent right in
        suits_from vs (rest I (now v) sent) (rest J (now v) no_rows) _ 0 (rest_same I J same (now v) sent no_rows)
        (again I ok (in_rest I (now v) sent) (nodes I - 1) in_rest_lem)
        (subst (λ keep. Ready (rest I (now v) sent) (λ u. renumber keep (now u)) 0 vs)
        (sym (kept_same I J same (now v) sent no_rows))
        (ready_rest I table (now v) cut sent right now vs (suc (now v)) 0 (omega arith) (λ w h. omega arith) more)),
  ),
)

-- A table that may be cut may be cut at any inner nodes but the root.
pub nodes_suit : (I : Input) → Cuttable I → (vs : List ℕ) → MayCut I 0 vs → Suits (cuts_at I vs) I
nodes_suit I ok vs may =
    suits_from vs I I (λ u. u) 0 (record { left = refl; right = refl }) ok (ready_first I vs 0 may)

-- the plan made from the tree of a table cuts at the nodes of the list, where back leads back from the numbers of now
cuts_from_lem : (vs : List ℕ) (I J : Input) (now back : ℕ → ℕ) (low : ℕ) → SameTree I J → Cuttable I → Ready I now low vs
    → ((u : ℕ) → low ≤ now u → now u < nodes I → back (now u) ≡ u) → nodes_cut (cuts_from J now vs) J back ≡ vs
cuts_from_lem [] I J now back low same ok ready leads = refl
cuts_from_lem (v ∷ vs) I J now back low same ok (here, (cut, more)) leads =
    let inside = cut.inside in
    let table = ok.table in
    let sent : ℕ → ℕ → ℕ = λ j x. row (column I j) (now v) x in
    let right : (j x : ℕ) → j < I.c → x < I.s → sent j x ≡ row (column I j) (now v) x = λ j x hj hx. refl in
    let K = in_rest I (now v) sent in
    let kept = kept_same I J same (now v) sent no_rows in
    let least = suc (renumber K.keep (now v)) in
    let ready = ready_rest I table (now v) cut sent right now vs (suc (now v)) least (omega arith)
    (λ w h. renumber_lt K.keep (now v) w (rest_own I table (now v) cut sent right) h) more in
    let leads_on : (u : ℕ) → least ≤ renumber K.keep (now u)
    → renumber K.keep (now u) < nodes (rest I (now v) sent)
    → back (rest_node J (now v) no_rows (renumber K.keep (now u))) ≡ u =
    λ u h k. let (high, low_enough, own) = rest_back I table (now v) cut sent right (now u) h k in
    ap (λ f. back (f (renumber K.keep (now u)))) (node_same I J same (now v) sent no_rows)
    ∙ ap back own
    ∙ leads u (omega arith) low_enough in
    ap₂ ◌∷◌ (leads v here (omega arith))
    (cuts_from_lem vs (rest I (now v) sent) (rest J (now v) no_rows) _ _ least (rest_same I J same (now v) sent no_rows)
    (again I ok K (nodes I - 1) (rest_stands I table (now v) cut sent right))
    (subst (λ keep. Ready (rest I (now v) sent) (λ u. renumber keep (now u)) least vs) (sym kept) ready)
    (subst (λ keep. (u : ℕ) → least ≤ renumber keep (now u) → renumber keep (now u) < nodes (rest I (now v) sent)
    → back (rest_node J (now v) no_rows (renumber keep (now u))) ≡ u) (sym kept) leads_on))

-- The plan cuts a table that may be cut at these nodes and nowhere else.
pub nodes_exactly : (I : Input) → Cuttable I → (vs : List ℕ) → MayCut I 0 vs → nodes_cut (cuts_at I vs) I (λ u. u) ≡ vs
nodes_exactly I ok vs may =
    cuts_from_lem vs I I (λ u. u) (λ u. u) 0 (record { left = refl; right = refl }) ok (ready_first I vs 0 may)
    (λ u low inside. refl)

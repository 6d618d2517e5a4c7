-- `pass_on` meets its contract: a tip leaves the list as it is, an inner node stores its children's marks.
-- Assumes nothing.
use Rattle.std.proofs.Common.{List, ℕ, ◌≡◌, map, ◌<◌, length, length-set, rules, ap, ap₂, sym, ◌∙◌, subst, arith}
use Rattle.tree_nodes.specs.NodeOf.{node_of}
use Rattle.std.proofs.lemmas.List.{length-map}
use Rattle.parsimony.specs.Column.{cost_at}
use Rattle.parsimony.specs.Table.{kids_at}
use Rattle.parsimony.specs.Written.{entries}
use Rattle.promises.specs.Input.{input_of}
use Rattle.choice_steps.specs.Marks.{gives}
use Rattle.walk_down.specs.Pass.{PassedOn}
use Rattle.walk_down.proofs.PassSteps.{costs_state, kids_inside, passed_inner, passed_is, numbers_set}
use Rattle.walk_down.proofs.pass_on.Goals as goal

pub row-requires : goal.row-requires
row-requires g c =
    (kids_inside c.args.rows.now.legal c.requires.node.0
    (sym (ap node_of c.in-Inner.is) ∙ c.node_at.ensures)).0

pub offset_bounds-marks-a : goal.offset_bounds-marks-a
offset_bounds-marks-a g c =
    let kids = kids_inside c.args.rows.now.legal c.requires.node.0
    (sym (ap node_of c.in-Inner.is) ∙ c.node_at.ensures) in
    let there : c.in-Inner.a < length c.args.marks.now = omega (arith, kids.0, c.requires.node.1) in
    search rules

pub bounds-marks-a : goal.bounds-marks-a
bounds-marks-a g c =
    let kids = kids_inside c.args.rows.now.legal c.requires.node.0
    (sym (ap node_of c.in-Inner.is) ∙ c.node_at.ensures) in
    omega (arith, kids.0, c.requires.node.1)

pub row-requires-in-Inner : goal.row-requires-in-Inner
row-requires-in-Inner g c =
    (kids_inside c.args.rows.now.legal c.requires.node.0
    (sym (ap node_of c.in-Inner.is) ∙ c.node_at.ensures)).1

pub offset_bounds-marks-b : goal.offset_bounds-marks-b
offset_bounds-marks-b g c =
    let kids = kids_inside c.args.rows.now.legal c.requires.node.0
    (sym (ap node_of c.in-Inner.is) ∙ c.node_at.ensures) in
    let there : c.in-Inner.b < length c.args.marks.now = omega (arith, kids.1, c.requires.node.1) in
    search rules

pub bounds-marks-b : goal.bounds-marks-b
bounds-marks-b g c =
    let kids = kids_inside c.args.rows.now.legal c.requires.node.0
    (sym (ap node_of c.in-Inner.is) ∙ c.node_at.ensures) in
    let there : c.in-Inner.b < length c.args.marks.now = omega (arith, kids.1, c.requires.node.1) in
    let same = length-set c.args.marks.now c.in-Inner.a c.pass.result in
    omega arith

-- an inner node
pub returns-in-Inner : goal.returns-in-Inner
returns-in-Inner g c =
    let rows = c.args.rows.now in
    let I = input_of rows.table in
    let is = sym (ap node_of c.in-Inner.is) ∙ c.node_at.ensures in
    let kids = kids_inside rows.legal c.requires.node.0 is in
    let number = g.M.Mark.number in
    let long = length-map c.args.marks.now number in
    let same : (l : List ℕ) → g.M.Mark.passed c.costs_of-costs.result.s (cost_at c.costs_of-costs.result.s c.costs_of-costs.result.list.now) (entries l) (number c.args.mark)
    ≡ g.M.Mark.passed I.s (cost_at I.s I.costs) (entries l) (number c.args.mark) =
    λ l. ap₂ (λ s costs. g.M.Mark.passed s (cost_at s costs) (entries l) (number c.args.mark))
    c.costs_of-costs.ensures.0 c.costs_of-costs.ensures.1 in
    let left = c.pass.ensures ∙ same c.row.result.now ∙ passed_is g.M.Mark.laws I rows.entries.now _ _ (number c.args.mark) (costs_state rows.costs) c.row.ensures.size c.row.ensures.row in
    let right = c.pass-in-Inner.ensures ∙ same c.row-in-Inner.result.now ∙ passed_is g.M.Mark.laws I rows.entries.now _ _ (number c.args.mark) (costs_state rows.costs) c.row-in-Inner.ensures.size c.row-in-Inner.ensures.row in
    subst (PassedOn (kids_at I.left I.right c.args.v) (gives g.M.Mark.passed I rows.entries.now) (number c.args.mark) (map number c.args.marks.now))
    (numbers_set number c.args.marks.now _ _ _ _)
    (passed_inner _ _ _ _ _ _ _ is (omega (arith, kids.0, c.requires.node.1)) (omega (arith, kids.1, c.requires.node.1)) left right)

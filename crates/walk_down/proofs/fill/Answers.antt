-- `fill` meets its contract: each turn gives the children of one node more their marks.
-- Assumes nothing.
use Rattle.std.proofs.Common.{map, ◌-◌, refl, sym, subst, length-set, arith}
use Rattle.std.proofs.lemmas.List.{length-map}
use Rattle.parsimony.specs.Table.{kids_at}
use Rattle.parsimony.proofs.LegalLaws.{legal_some, legal_rooted}
use Rattle.promises.specs.Input.{input_of, nodes}
use Rattle.choice_steps.specs.Marks.{gives}
use Rattle.walk_down.proofs.DownSteps.{Descending, descending_start, descending_step, descending_done, descending_keeps}
use Rattle.walk_down.proofs.PassSteps.{costs_state, mark_read, mark_set}
use Rattle.walk_down.proofs.fill.Goals as goal

pub loop-v-init : goal.loop-v-init
loop-v-init g c =
    let rows = c.args.rows.now in
    let I = input_of rows.table in
    let number = g.M.Mark.number in
    let kids = kids_at I.left I.right in
    let give = gives g.M.Mark.passed I rows.entries.now in
    let long = length-map c.args.marks.now number in
    subst (λ l. Descending (nodes I) kids give (number c.args.start) (nodes I) l l)
    (sym (mark_set number c.args.marks.now (nodes I - 1) c.args.start))
    (descending_start (nodes I) kids give (number c.args.start) (number c.args.start) (map number c.args.marks.now)
    (legal_some rows.legal) (omega (arith, c.requires.room)) refl)

pub pass_on-requires-clause-fits : goal.pass_on-requires-clause-fits
pass_on-requires-clause-fits g c =
    let rows = c.args.rows.now in
    let I = input_of rows.table in
    let number = g.M.Mark.number in
    let turn = c.loop-v in
    let laws = g.M.Mark.laws in
    let long = length-set c.args.marks.now (nodes I - 1) c.args.start in
    let own = mark_read number turn.marks (turn.v - 1) c.index-marks-v.result (omega (arith, turn.auto.marks, turn.auto.v, c.requires.room, c.loop-v-test.true)) c.index-marks-v.is in
    descending_keeps (legal_rooted rows.legal) c.loop-v-test.true turn.auto.v own turn.invariant
    (g.M.Mark.Fits I.s) c.requires.fits (λ u x. laws.pass_fits I.s _ _ x (costs_state rows.costs) rows.costs.most)

pub loop-v-preserved : goal.loop-v-preserved
loop-v-preserved g c =
    let rows = c.args.rows.now in
    let I = input_of rows.table in
    let turn = c.loop-v in
    let long = length-set c.args.marks.now (nodes I - 1) c.args.start in
    let own = mark_read g.M.Mark.number turn.marks (turn.v - 1) c.index-marks-v.result (omega (arith, turn.auto.marks, turn.auto.v, c.requires.room, c.loop-v-test.true)) c.index-marks-v.is in
    descending_step (legal_rooted rows.legal) c.loop-v-test.true turn.auto.v own turn.invariant c.pass_on.ensures

pub returns : goal.returns
returns g c =
    let rows = c.args.rows.now in
    let I = input_of rows.table in
    let number = g.M.Mark.number in
    descending_done (number c.args.start) (map number c.args.marks.now) (legal_some rows.legal) c.loop-v-test.false
    (subst (λ l. Descending (nodes I) (kids_at I.left I.right) (gives g.M.Mark.passed I rows.entries.now) (number c.args.start) c.loop-v.v l (map number c.loop-v.marks))
    (mark_set number c.args.marks.now (nodes I - 1) c.args.start) c.loop-v.invariant)

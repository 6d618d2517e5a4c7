-- `visit` meets its contract: in each arm the node is known, and what it uses is taken if it is free.
-- Assumes nothing.
use mathlib.Core.Path.{ap, sym, ◌∙◌}
use Rattle.parsimony.specs.Table.{symbol, handed}
use Rattle.tree_nodes.specs.NodeOf.{node_of}
use Rattle.tree_test.proofs.VisitLaws.{marks_room, seen_room, rows_room_lem, visit_tip, visit_inner}
use Rattle.tree_test.proofs.visit.Goals as goal

pub take_row-requires : goal.take_row-requires
take_row-requires c = ((marks_room c.requires.to_visit).1 symbol, rows_room_lem c.requires.to_visit symbol)

pub take_row-requires-in-Handed : goal.take_row-requires-in-Handed
take_row-requires-in-Handed c = ((marks_room c.requires.to_visit).1 handed, rows_room_lem c.requires.to_visit handed)

pub take_kids-requires : goal.take_kids-requires
take_kids-requires c = ((marks_room c.requires.to_visit).0, seen_room c.requires.to_visit)

-- a symbol tip
pub returns-in-Symbol : goal.returns-in-Symbol
returns-in-Symbol c = visit_tip c.requires.to_visit symbol (sym (ap node_of c.in-Symbol.is) ∙ c.node_at.ensures) c.take_row.ensures

-- a handed tip
pub returns-in-Handed : goal.returns-in-Handed
returns-in-Handed c = visit_tip c.requires.to_visit handed (sym (ap node_of c.in-Handed.is) ∙ c.node_at.ensures) c.take_row-in-Handed.ensures

-- an inner node
pub returns-in-Inner : goal.returns-in-Inner
returns-in-Inner c = visit_inner c.requires.to_visit (sym (ap node_of c.in-Inner.is) ∙ c.node_at.ensures) c.take_kids.ensures

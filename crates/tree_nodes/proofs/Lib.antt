-- Laws of the nodes of tree tables.
-- Assumes nothing.
pub mod NodeLaws

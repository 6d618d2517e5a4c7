-- Laws of the loops of the test of a tree.
-- Assumes nothing.
pub mod VisitLaws
pub mod FoundLaws

-- Laws of the test of handed rows.
-- Assumes nothing.
pub mod HandedLaws

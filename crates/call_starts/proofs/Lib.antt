-- Laws of the tests of starts.
-- Assumes nothing.
pub mod StartLaws

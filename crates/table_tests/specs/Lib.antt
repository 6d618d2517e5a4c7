-- What the tests of a table and of a call answer.
-- Assumes nothing.
pub mod Tested

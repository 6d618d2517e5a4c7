-- What stands for an answer in the number that a call returns.
-- Assumes nothing.
pub mod Codes

-- What a byte of a cell stands for.
-- Assumes nothing.
pub mod Code
pub mod Symbol

-- Laws of the operations that state sets use, on the numbers that hold them.
-- Assumes nothing.
pub mod Words

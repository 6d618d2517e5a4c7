-- What a table says of a node in a column, over the definitions of `parsimony` and `promises`.
-- Assumes nothing.
pub mod Said

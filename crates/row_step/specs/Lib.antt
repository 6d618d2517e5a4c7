-- What an entry of a row is, over the definitions of `parsimony`.
-- Assumes nothing.
pub mod Lane

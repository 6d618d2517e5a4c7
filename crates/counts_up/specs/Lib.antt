-- What counting by sets promises, over the definitions of `parsimony`.
-- Assumes nothing.
pub mod Prelims

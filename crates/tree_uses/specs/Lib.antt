-- What the marks of uses say, over the definitions of `parsimony`.
-- Assumes nothing.
pub mod Marks

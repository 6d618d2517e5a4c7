-- What the nodes of tree tables are, over the definitions of `parsimony`.
-- Assumes nothing.
pub mod NodeOf

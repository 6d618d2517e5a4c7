-- What a walk from the root down gives each node, over the definitions of `parsimony`.
-- Assumes nothing.
pub mod Pass

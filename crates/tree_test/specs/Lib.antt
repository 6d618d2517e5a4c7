-- What the test of a tree says, over the definitions of `parsimony`.
-- Assumes nothing.
pub mod Found
pub mod Visit

-- Laws by subject, and the proofs of the functions.
-- Assumes nothing.
pub mod TokenLaws
pub mod MarkLaws
pub mod TipSteps

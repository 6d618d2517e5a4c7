-- Laws of the marks of uses.
-- Assumes nothing.
pub mod UseSteps
pub mod MarkLaws

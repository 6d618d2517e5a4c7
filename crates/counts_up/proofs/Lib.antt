-- Laws of the steps of counting by sets.
-- Assumes nothing.
pub mod CountSteps

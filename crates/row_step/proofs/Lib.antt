-- Laws of the steps on rows.
-- Assumes nothing.
pub mod LaneLaws
pub mod CellLaws
pub mod LeastSteps

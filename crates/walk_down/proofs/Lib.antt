-- Laws of what a node passes on, and of the walk from the root down.
-- Assumes nothing.
pub mod PassSteps
pub mod DownSteps

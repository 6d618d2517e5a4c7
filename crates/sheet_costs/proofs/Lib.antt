-- Laws of the cost table and of the section of the costs.
-- Assumes nothing.
pub mod CostLaws
pub mod CostSteps
pub mod FlatLaws
pub mod TableLaws

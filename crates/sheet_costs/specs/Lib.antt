-- The section of the costs.
-- Assumes nothing.
pub mod CostRules
pub mod Costs

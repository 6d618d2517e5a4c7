-- Laws of the tests of costs and cells.
-- Assumes nothing.
pub mod RuleSteps

-- Laws of the report's lines.
-- Assumes nothing.
pub mod LineLaws
pub mod LineSteps
pub mod ReportLaws
pub mod Outcomes
pub mod Cases
pub mod Examples

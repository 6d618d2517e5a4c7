-- Laws of the sheet up to its tree line, and examples of it by computation.
-- Assumes nothing.
pub mod Cases
pub mod SheetLaws
pub mod FaultLines
pub mod SheetSteps

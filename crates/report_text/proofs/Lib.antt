-- Laws of decimal digits and of what is put at the end of a text.
-- Assumes nothing.
pub mod DecimalLaws
pub mod NumberSteps
pub mod MappedSteps
pub mod PutLaws
pub mod Cases

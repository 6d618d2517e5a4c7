-- Laws of bytes, lines, words, numbers, count lines and sections, and examples of them by computation.
-- Assumes nothing.
pub mod Answers
pub mod ByteLaws
pub mod Cases
pub mod CountLaws
pub mod CountSteps
pub mod CountingLaws
pub mod EveryLaws
pub mod Filling
pub mod LineLaws
pub mod LineSteps
pub mod NumberSteps
pub mod PartLaws
pub mod Passing
pub mod SectionReads
pub mod SectionSteps
pub mod WordSteps

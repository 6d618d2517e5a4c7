-- Laws of the quiet mark, the one-state count and the labels as letters.
-- Assumes nothing.
pub mod LetterLaws
pub mod OneStateLaws
pub mod CountLaws
pub mod QuietSteps
pub mod QuietLaws
pub mod Cases

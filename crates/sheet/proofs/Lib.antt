-- What the sheet holds, in words, and the proofs of the functions.
pub mod Cases
pub mod ReadSteps
pub mod CellSteps
pub mod SoundSheet
pub mod TableRules
pub mod FaultLine

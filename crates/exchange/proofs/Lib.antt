-- What the entry needs and gives, and the proofs of its functions.
pub mod EntrySteps
pub mod EntryOutcome

-- Laws of the code of set counting, and that no second outcome meets a promise of the C interface.
-- Assumes nothing.
pub mod CodeLaws
pub mod CodeOutcomes

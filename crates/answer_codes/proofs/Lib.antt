-- Laws of the packing of answers.
-- Assumes nothing.
pub mod CodeLaws
pub mod StartLaws

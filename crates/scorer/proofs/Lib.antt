-- What counting by sets answers.
-- Assumes nothing.
pub mod CountResult

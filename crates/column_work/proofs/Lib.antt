-- Laws of the work on a table: what it leaves has the meaning promised.
-- Assumes nothing.
pub mod ScoreSteps

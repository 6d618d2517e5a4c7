-- The lines of the report, byte by byte.
-- Assumes nothing.
pub mod Line
pub mod Frame
pub mod Reports

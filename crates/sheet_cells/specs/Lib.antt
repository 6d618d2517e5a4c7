-- The section of the columns.
-- Assumes nothing.
pub mod Cells
pub mod IsRow

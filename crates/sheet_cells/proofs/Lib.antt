-- Laws of a row of cells and of the section of the columns.
-- Assumes nothing.
pub mod CellLaws
pub mod CellSteps
pub mod RowLaws

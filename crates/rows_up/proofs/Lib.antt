-- Laws of the rows of one column: the row room, and the rows of a table's nodes.
-- Assumes nothing.
pub mod RoomLaws
pub mod RowSteps

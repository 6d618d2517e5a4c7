-- Laws of the test of room.
-- Assumes nothing.
pub mod RoomLaws

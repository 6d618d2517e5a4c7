-- The sheet up to its tree line.
-- Assumes nothing.
pub mod Sheet
pub mod SheetRead

-- The lines that a sheet's columns are printed as.
-- Assumes nothing.
pub mod SheetLine
pub mod ReadOnce
pub mod Rooms
pub mod Page
pub mod Report

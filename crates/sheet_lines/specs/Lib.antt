-- The lines of a sheet: what its words mean, as definitions that compute.
-- Assumes nothing.
pub mod Bytes
pub mod Count
pub mod Counting
pub mod Fault
pub mod IsLine
pub mod Line
pub mod Number
pub mod Section
pub mod Word

-- The whole sheet: what it holds, or its first fault.
-- Assumes nothing.
pub mod Judge
pub mod Gives
pub mod Table
pub mod Cells

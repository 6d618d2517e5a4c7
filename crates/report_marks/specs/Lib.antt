-- The quiet mark, the one-state count, and labels as letters.
-- Assumes nothing.
pub mod Quiet
pub mod OneState
pub mod Letters

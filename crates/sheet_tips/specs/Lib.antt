-- The names of tree text: where a name ends, which row it is, and how it is read into a tip.
-- Assumes nothing.
pub mod Vine
pub mod Token
pub mod Marks
pub mod Tip
pub mod Nodes
pub mod Reading

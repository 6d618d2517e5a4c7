-- Tree text: what the tree line denotes, and how it is read.
-- Assumes nothing.
pub mod Parse
pub mod Reading
pub mod Denotes
pub mod TreeLine

-- Cuts of a table: its parts and rests, its ranges of columns, and what is put together from them.
-- Assumes nothing.
pub mod Numbering
pub mod Filled
pub mod Piece
pub mod Cut
pub mod Sits
pub mod Cuttable
pub mod Call
pub mod Plan
pub mod Nodes

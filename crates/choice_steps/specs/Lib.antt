-- What the choosing and set steps promise, over the entries of rows, and what holds of what they give.
-- Assumes nothing.
pub mod Ties
pub mod Marks

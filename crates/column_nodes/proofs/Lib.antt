-- Where the entries of a node of a sound table stand.
-- Assumes nothing.
pub mod PlaceLaws

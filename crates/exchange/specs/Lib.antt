-- What the host's entry promises.
-- Assumes nothing.
pub mod Entry

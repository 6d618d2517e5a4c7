-- What the C interface of the five table calls promises.
-- Assumes nothing.
pub mod Coded

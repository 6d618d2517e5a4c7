-- Texts put together: decimal digits, and what a function makes of each byte.
-- Assumes nothing.
pub mod Decimal
pub mod Starts
pub mod Puts
pub mod Mapped

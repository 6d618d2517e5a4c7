-- The table of the code, the laws of its answers, and examples of them by computation.
-- Assumes nothing.
pub mod Below
pub mod Cases
pub mod SymbolLaws
pub mod Table
pub mod TableLaws

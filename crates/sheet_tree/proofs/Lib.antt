-- The definitions on small inputs, laws by subject, and the proofs of the functions.
pub mod Cases
pub mod SizeLaws
pub mod PairSteps
pub mod LineSteps
pub mod SpanLaws
pub mod ChildLaws
pub mod TipLaws
pub mod RuleLaws
pub mod EntryLaws
pub mod TableLaws
pub mod OnceLaws
pub mod NameLaws
pub mod DenoteLaws
pub mod TreeText

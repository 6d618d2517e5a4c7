-- Laws of rules and answers, that no second outcome meets a promise, that promises can be met, and that what they say
-- by meaning is what the definitions by rows give.
-- Assumes nothing.
pub mod RuleLaws
pub mod SoundLaws
pub mod AnswerLaws
pub mod RefusalLaws
pub mod TableLaws
pub mod ResultUnique
pub mod Meaning
pub mod Outcomes
pub mod WriteLaws
pub mod CanBeMet

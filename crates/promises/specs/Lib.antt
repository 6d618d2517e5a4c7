-- What the table calls promise: what they are given, what they require in the paper's order, when each number is given,
-- what is right for each result, and what is written into each list that is lent.
-- Assumes nothing.
pub mod Input
pub mod Rules
pub mod Starts
pub mod CallRules
pub mod Answers
pub mod Results
pub mod RowRoom
pub mod CallWrites
pub mod Promises

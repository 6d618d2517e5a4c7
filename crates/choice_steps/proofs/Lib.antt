-- Laws of the loops that gather states, of the sums of a child's states, and of the two kinds of marks: that the walk
-- down by the rows of a column leaves what the calls promise.
-- Assumes nothing.
pub mod SetSteps
pub mod SumLaws
pub mod LinkLaws
pub mod ResultLaws
pub mod MarkKinds

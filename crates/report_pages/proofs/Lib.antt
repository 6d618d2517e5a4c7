-- What the printer needs and gives, and the proof of its function.
pub mod PrintSteps
pub mod RoomLaws
pub mod PageSteps
pub mod ReadLaws
pub mod ReportLaws
pub mod Cases

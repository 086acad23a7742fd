pub mod Steps
pub mod Replays
pub mod Fetched
pub mod SessionLaws
pub mod ReplayAnswers
pub mod SessionRecords

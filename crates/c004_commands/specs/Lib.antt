pub mod Commands
pub mod Answers
pub mod Faults
pub mod Reader

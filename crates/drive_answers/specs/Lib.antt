pub mod Endings
pub mod Ways
pub mod Seen
pub mod Answers

mod Modules
mod Lines
mod OneReading
mod Placing
mod ReadMissing
pub mod ReadBoards

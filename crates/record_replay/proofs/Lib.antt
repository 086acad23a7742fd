pub mod Steps
pub mod Entries
mod Kept
mod Strangers
mod Others
mod Telling
mod Turns
mod Parts
pub mod Written
mod Heads
mod Books

pub mod Refusals
pub mod Sources

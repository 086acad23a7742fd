pub mod Line
pub mod Reading
pub mod Stages
pub mod HalfLink

pub mod Rows
pub mod Readings
pub mod Rests
pub mod Faults

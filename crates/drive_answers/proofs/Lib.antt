pub mod Over
pub mod ToldBeside
pub mod Wirings

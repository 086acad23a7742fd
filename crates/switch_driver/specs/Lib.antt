pub mod Streams
pub mod ComingUp
pub mod Ports
pub mod Steps
pub mod Hearings
pub mod Driving
pub mod Lines
pub mod Laws

pub mod Begun
pub mod Held
pub mod Lived
pub mod Served
pub mod Started
pub mod Told

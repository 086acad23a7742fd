pub mod Streams
pub mod Conversing
pub mod Settings
pub mod Telling
pub mod Texts
pub mod Asking
pub mod ComingUp

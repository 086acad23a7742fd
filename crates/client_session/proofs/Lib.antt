pub mod OneMeaning
pub mod Parts
pub mod Known
pub mod Asking
pub mod Lists
pub mod Listening
pub mod Taken
mod Calling
pub mod Doing
pub mod Turning
pub mod Readings
pub mod Served
pub mod Taking

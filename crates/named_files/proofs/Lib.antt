pub mod Written
pub mod Named
pub mod ReadNames
pub mod Reading
pub mod Told
pub mod Seen
pub mod Admitted

pub mod DistinctFiles
pub mod Clients
pub mod Contents
pub mod Outputs
pub mod Notes
pub mod Streams

pub mod Sessions
pub mod Talks
pub mod HostedSessions
pub mod Crossing

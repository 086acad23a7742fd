pub mod CallTexts
pub mod Put
pub mod Lines
pub mod Feeds
mod Replies
pub mod Marks
pub mod Fronts
pub mod Heads
pub mod Sums
pub mod SeenBytes
pub mod Streams
pub mod Crossing

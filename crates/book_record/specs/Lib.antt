pub mod Sums
pub mod RecordText
pub mod Reading
pub mod Fronts
pub mod Heads
pub mod FrontLaws
pub mod Streams

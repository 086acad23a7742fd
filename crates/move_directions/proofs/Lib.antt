pub mod OneReading
pub mod EndPairs
pub mod Directed
pub mod Bounds

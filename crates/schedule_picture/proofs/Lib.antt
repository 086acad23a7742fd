pub mod Texts
pub mod Table
pub mod Fewest
pub mod Needed
pub mod Overlaps
pub mod OneByOne

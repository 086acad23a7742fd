pub mod Latches
pub mod Carrying
pub mod Changes
pub mod Fronts
pub mod Boards
pub mod Conversed

pub mod Text
pub mod Faults
pub mod Moves
pub mod Directions
pub mod Ends
pub mod Laws

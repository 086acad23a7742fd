pub mod Ends
pub mod Colouring
pub mod Counts
pub mod Classes
pub mod Cells
pub mod Equal
pub mod Laws

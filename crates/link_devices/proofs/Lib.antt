pub mod Outputs
pub mod Begun
pub mod Fronts
pub mod Feeding

pub mod Split
pub mod Pairs
pub mod Walks
pub mod Masks
pub mod Trails
pub mod Deals
pub mod Evenness

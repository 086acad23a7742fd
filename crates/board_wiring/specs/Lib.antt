pub mod Modules
pub mod Text
pub mod Faults
pub mod Sources
pub mod Filling
pub mod Boards
pub mod Missing
pub mod Laws

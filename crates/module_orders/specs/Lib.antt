pub mod Orders
pub mod Flags
pub mod OrdersText
pub mod Obeying
pub mod Laws

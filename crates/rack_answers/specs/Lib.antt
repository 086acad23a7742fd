pub mod Reports
pub mod Openings
pub mod Answers
pub mod Boards
pub mod Switching
pub mod Orders
pub mod Laws

pub mod Places
pub mod Verdicts
pub mod Elements
pub mod Cells
pub mod RowsText
pub mod Rules
pub mod Picture
pub mod Laws

pub mod DataBits
pub mod Lines
pub mod BitSteps

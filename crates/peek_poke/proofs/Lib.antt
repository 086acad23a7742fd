pub mod WholeText
pub mod SoFar
pub mod BlockLaws
pub mod Delivery
pub mod OneText
pub mod Breaking

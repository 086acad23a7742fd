pub mod PlanText
pub mod Printing
pub mod OneReading
pub mod OneVerdict
pub mod WrongCertificates
pub mod Ranges
pub mod OneDrawing
pub mod OneSource

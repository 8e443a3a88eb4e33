pub mod OneReading
pub mod Written
pub mod TakenOf

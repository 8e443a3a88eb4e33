pub mod Places
pub mod TraceLemmas
pub mod TreatLemmas
pub mod OneReading
pub mod Definites
pub mod ReadHeaders

pub mod Definites
pub mod LongLines
pub mod OneReading
pub mod ReadHeaders
pub mod StageLemmas

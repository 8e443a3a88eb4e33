pub mod ClaimLemmas
pub mod Definites
pub mod PassLemmas
pub mod Reverses
pub mod SoundLemmas
pub mod StandLemmas
pub mod TraceLengths

pub mod Halves
pub mod Samples
pub mod Removals
pub mod Peers
pub mod BestSamples
pub mod Counters
pub mod Entries

pub mod Deliveries
pub mod Occurrences
pub mod ReadyLemmas
pub mod Replicates
pub mod SetupLemmas
pub mod WorldLemmas

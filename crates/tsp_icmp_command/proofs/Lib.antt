pub mod RecordLemmas
pub mod BestLemmas
pub mod TreatLemmas

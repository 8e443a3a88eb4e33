pub mod AgreementLemmas
pub mod AgreementSteps
pub mod ActLemmas
pub mod BackLemmas
pub mod FromRoundLemmas
pub mod EventLemmas
pub mod JudgeLemmas
pub mod MeasureLemmas
pub mod NearLemmas
pub mod NumberedLemmas
pub mod Prefixes
mod Alike
mod RunClaims
pub mod SampleLemmas
pub mod SendPlaces
pub mod SettleLemmas
pub mod StateLemmas
pub mod TakeLemmas
pub mod ThroughLemmas

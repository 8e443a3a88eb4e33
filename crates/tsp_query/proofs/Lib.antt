pub mod AskLemmas
pub mod FaultLemmas
pub mod LineLemmas
pub mod OutsideLemmas
pub mod QueryLemmas
pub mod SampleLemmas

pub mod FitLemmas
pub mod StandLemmas
pub mod StepLemmas

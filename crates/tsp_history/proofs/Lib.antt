pub mod BriefLemmas
pub mod HistoryLemmas
pub mod NoteLemmas
pub mod RoundLemmas
pub mod SendLemmas
pub mod SpacingLemmas

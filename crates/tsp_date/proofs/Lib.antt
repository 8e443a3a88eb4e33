pub mod DateLemmas
pub mod DatesLemmas
pub mod KeepLemmas
pub mod TaskLemmas

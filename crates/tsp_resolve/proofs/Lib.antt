pub mod MarkedLemmas
pub mod MarksLemmas
pub mod ResolveLemmas
